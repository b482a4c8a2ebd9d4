-- Three lent places for the numbers of faces, curves and points: a refusal changes no lent slice.
-- Assumes nothing.
use Rattle.std.specs.Prelude.{cond, List, ℕ, eqb, set, Result, Ok, Err}
use Rattle.refusals.specs.declared.Refusal.{Refusal}
use Rattle.refusals.specs.Refusals.{number}
use Rattle.counts.specs.declared.Counts.{Counts}

-- What is told of faces, curves and points by number: the refusal's, 0 for none, and how many there are.
pub record Counted : Type 0 where
  pub refusal : ℕ
  pub faces : ℕ
  pub curves : ℕ
  pub points : ℕ

-- .. by an answer: zeros where it is refused.
abbrev pub told : Result Counts Refusal → Counted
told (Ok n) = record { refusal = 0; faces = n.faces; curves = n.curves; points = n.points }
told (Err r) = record { refusal = number r; faces = 0; curves = 0; points = 0 }

-- What the places hold after a call: the three numbers if it is accepted, what they held if it is refused.
unfoldable pub stored_counts : ℕ → ℕ → ℕ → ℕ → List ℕ → List ℕ
stored_counts refusal faces curves points c = cond (eqb refusal 0) (set (set (set c 0 faces) 1 curves) 2 points) c

-- .. by what is told of them.
abbrev pub counted_stored : Counted → List ℕ → List ℕ
counted_stored a c = stored_counts a.refusal a.faces a.curves a.points c

abbrev pub answer_stored : Result Counts Refusal → List ℕ → List ℕ
answer_stored r c = counted_stored (told r) c
