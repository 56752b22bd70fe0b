-- Texts as a reader sees them, for the cases in proofs/Examples.antt of the crates above. A quoted text is turned into its bytes by the checker;
-- it has only characters below 128, each of which is one byte.
use Rattle.std.specs.Prelude.{ℕ, cond, List, [], ◌∷◌, ◌++◌, eqb}
use Prim.Native.Char.{code}
use Prim.Native.String.{String, [] as []ˢ, ◌∷◌ as ◌∷ˢ◌}

-- the bytes of a text
unfoldable pub bytes : String → List ℕ
bytes []ˢ = []
bytes (c ∷ˢ s) = code c ∷ bytes s

-- "tabs shown as spaces"
unfoldable pub tabbed : List ℕ → List ℕ
tabbed [] = []
tabbed (b ∷ s) = cond (eqb b 32) 9 b ∷ tabbed s

-- a line without its byte 10
unfoldable pub unended : String → List ℕ
unended s = tabbed (bytes s)

-- whole lines, each ended by byte 10
unfoldable pub text : List String → List ℕ
text [] = []
text (l ∷ ls) = unended l ++ 10 ∷ text ls
