-- Tables of the stated lengths hold the totals of the faces of a closed job.
-- Assumes nothing.
use mathlib.Core.Path.{◌≡◌}
use mathlib.Core.Bool.{true}
use mathlib.Core.List.{List, [], ◌∷◌}
use Prim.Native.Nat.{ℕ, ◌*◌, ◌≤◌}
use native.Mathlib.Omega.{arith}
use lib.ListN.{length}
use lib.Ieee.{Float}
use Rattle.totals.specs.Totals.{Holds}
use Rattle.totals.proofs.TotalLaws.{fewer_holds}
use Rattle.joiner.specs.Job.{Face, Job, tray, lengths_fit}
use Rattle.joiner.specs.Declines.{tallies_fit}
use Rattle.joiner.proofs.Passed.{fits_at_lem, numbered_fits}

-- tables of the stated lengths are long enough for so many faces
pub trays_hold : (count faces came : ℕ) (sums : List Float) (counts : List ℕ)
    → lengths_fit (tray came count ∷ tray (length sums) (2 * faces) ∷ tray (length counts) (6 * faces) ∷ []) ≡ true → Holds sums counts faces
trays_hold count faces came sums counts h =
    let lent = tray came count ∷ tray (length sums) (2 * faces) ∷ tray (length counts) (6 * faces) ∷ [] in
    let sums-are : length sums ≡ 2 * faces = fits_at_lem lent 1 h in
    let counts-are : length counts ≡ 6 * faces = fits_at_lem lent 2 h in
    record { sums_long = omega (arith, sums-are); counts_long = omega (arith, counts-are) }

-- .. and for a face of the closed table, where the tallies fit
pub face_holds : (j : Job) (sums : List Float) (counts : List ℕ) (n : ℕ) → tallies_fit j ≡ true → n ≤ j.numbered Face → Holds sums counts (j.told.entries Face) → Holds sums counts n
face_holds j sums counts n t h H =
    let most : j.numbered Face ≤ j.told.entries Face = numbered_fits j t Face in
    fewer_holds sums counts n (j.told.entries Face) (omega (arith, h, most)) H
