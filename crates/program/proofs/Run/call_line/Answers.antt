-- `call_line` meets its contract: each call is made on watch and table, a mark and a forget at their number narrowed, and the run goes on with what it answers.
use Rattle.std.proofs.Common.{◌≡◌, ◌∙◌, arith, w32, w64, ℤ, to_z, of_z}
use mir.Val.{SFits}
use Rattle.interval.proofs.Machine.{same32, same64}
use Rattle.program.specs.Runs.{narrowed}
use Rattle.program.proofs.Entries.{event_made, clock_made, forget_made}
use Rattle.program.proofs.Run.call_line.Goals as goal

-- a number that fits, as the machine has it
number : (x n : ℤ) → SFits w64 x → SFits w32 n → n ≡ narrowed (to_z w64 (of_z w64 x)) → to_z w32 (of_z w32 n) ≡ narrowed x
number x n wide fits e = same32 _ fits ∙ simp (same64 _ wide) at e

pub step-requires : goal.step-requires
step-requires c = (c.requires.1, (event_made c.args.self.now _ c.requires.0 c.in-Some-Event.k c.event_unchecked-outcome.ensures).kept)

pub step-requires-in-Some-Clock : goal.step-requires-in-Some-Clock
step-requires-in-Some-Clock c =
    let n = number c.in-Some-Clock.x _ (record { sfits = omega arith }) (record { sfits = c.narrowed.type_inv }) c.narrowed.ensures in
    (c.requires.1, (clock_made c.args.self.now _ c.requires.0 _ n c.clock_unchecked-outcome.ensures).kept)

pub step-requires-in-Some-Forget : goal.step-requires-in-Some-Forget
step-requires-in-Some-Forget c =
    let n = number c.in-Some-Forget.f _ (record { sfits = omega arith }) (record { sfits = c.narrowed-in-Some-Forget.type_inv }) c.narrowed-in-Some-Forget.ensures in
    (c.requires.1, (forget_made c.args.self.now _ c.requires.0 _ n c.forget_unchecked-outcome.ensures).kept)

pub returns-in-Some-Clock : goal.returns-in-Some-Clock
returns-in-Some-Clock c =
    let n = number c.in-Some-Clock.x _ (record { sfits = omega arith }) (record { sfits = c.narrowed.type_inv }) c.narrowed.ensures in
    rw (← c.in-Some-Clock.ensures.0, c.in-Some-Clock.field-0-is, c.step-in-Some-Clock.ensures) (clock_made c.args.self.now _ c.requires.0 _ n c.clock_unchecked-outcome.ensures).goes

pub returns-in-Some-Forget : goal.returns-in-Some-Forget
returns-in-Some-Forget c =
    let n = number c.in-Some-Forget.f _ (record { sfits = omega arith }) (record { sfits = c.narrowed-in-Some-Forget.type_inv }) c.narrowed-in-Some-Forget.ensures in
    rw (← c.in-Some-Forget.ensures.0, c.in-Some-Forget.field-0-is, c.step-in-Some-Forget.ensures) (forget_made c.args.self.now _ c.requires.0 _ n c.forget_unchecked-outcome.ensures).goes
