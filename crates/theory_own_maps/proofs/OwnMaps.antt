-- The premise of statement 3 about maps, out of the promise of `label`: an accepted labelling leaves a map as the premise asks for.
-- Assumes nothing.
use mathlib.Core.Path.{◌≡◌, sym, ◌∙◌}
use mathlib.Core.Bool.{false, ◌&&◌}
use mathlib.Core.List.{List}
use Prim.Native.Nat.{ℕ}
use lib.Dec.{eqb}
use lib.ListN.{length}
use borrow.Author.Tests.{eqb-true, not-false}
use Rattle.lists.proofs.Cases.{and_first}
use Rattle.refusals.specs.declared.Refusal.{Refusal}
use Rattle.refusals.specs.Refusals.{number, stands_in}
use Rattle.refusals.proofs.RefusalLaws.{given_none}
use Rattle.cells.specs.Box.{volume}
use Rattle.cells.specs.declared.Triple.{Triple}
use Rattle.cells.specs.Grid.{cells}
use Rattle.joiner.specs.Statement.{Labelling}
use Rattle.counts.specs.Counts.{Counted}
use Rattle.labeller.specs.Labelling.{outcome, labelling, declines, refusal_of, wrong_tray}
use Rattle.labeller.proofs.OneBlock.{label_refusal, label_map}

pub label_labelling : (e : Triple) (codes m w : List ℕ) (r : Counted) (m' w' : List ℕ) → outcome r m' w' ≡ labelling e codes m w → r.refusal ≡ 0 → Labelling e m'
unfolding refusal_of declines stands_in number wrong_tray
label_labelling e codes m w r m' w' promise fine =
    let n : (d : Refusal) → stands_in (declines e (length codes) (length m) (length w)) d ≡ false =
    (given_none (stands_in (declines e (length codes) (length m) (length w)))).0 (sym (label_refusal e codes m w r m' w' promise) ∙ fine) in
    let many : length codes ≡ volume e =
    eqb-true _ _ (and_first (eqb (length codes) (volume e)) (eqb (length m) (cells e) && eqb (length w) (cells e)) (not-false _ (n Refusal.WrongTray))) in
    record {
      codes = codes;
      many = many;
      left = label_map e codes m w r m' w' promise fine;
    }
