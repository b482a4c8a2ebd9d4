-- An opening that is lent the tables of the readings is one of the joiner.
-- Assumes nothing.
use mathlib.Core.Path.{◌≡◌}
use mathlib.Core.Bool.{Bool, false, true}
use borrow.Author.Tests.{not-false}
use Rattle.lists.proofs.Cases.{and_first, and_second}
use Rattle.refusals.specs.declared.Refusal.{Refusal}
use Rattle.refusals.specs.Refusals.{number, table, first, given_by, stands_in}
use Rattle.refusals.proofs.RefusalLaws.{given_none}
use Rattle.cells.specs.Extents.{off_size}
use Rattle.cutting.specs.Cutting.{good_cut}
use Rattle.joiner.specs.Job.{Told, Tables, lengths_fit}
use Rattle.joiner.specs.Outcomes.{all_trays, open_declines, open_refusal}
use Rattle.strain_calls.specs.Tables.{TotalTables, total_trays}
use Rattle.strain_calls.specs.Declines.{opening_declines, opening_refusal}

module _ (o : Told) (lent : Tables) (w : TotalTables) (r : opening_refusal o lent w ≡ 0) where
  none_stands : (z : Refusal) → stands_in (opening_declines o lent w) z ≡ false
  unfolding opening_refusal
  none_stands = (given_none (stands_in (opening_declines o lent w))).0 r

  abbrev joined_fit : Bool
  joined_fit = lengths_fit (all_trays o lent)

  abbrev totals_fit : Bool
  totals_fit = lengths_fit (total_trays o w)

  -- what an accepted opening passed
  opening_passed : (off_size 1024 o.cutting.extents ≡ false) × (good_cut o.cutting ≡ true) × (joined_fit ≡ true) × (totals_fit ≡ true)
  unfolding opening_declines stands_in number
  opening_passed =
      let fit = not-false _ (none_stands Refusal.WrongTray) in
      (none_stands Refusal.OffSize, not-false _ (none_stands Refusal.BadCut), and_first joined_fit totals_fit fit, and_second joined_fit totals_fit fit)

  -- The joiner's refusals do not stand either, and the tables of the readings have the stated lengths.
  pub opening_fits : (open_refusal o lent ≡ 0) × (lengths_fit (total_trays o w) ≡ true)
  unfolding open_refusal open_declines given_by first table number stands_in
  opening_fits =
      let p = opening_passed in
      (rw (p.0, p.1, p.2), p.3)
