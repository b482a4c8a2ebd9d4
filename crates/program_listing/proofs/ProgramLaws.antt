-- The parser, the labeller and the printer, one after the other as `main` calls them, give the text `printed`.
-- Assumes nothing.
use mathlib.Core.Path.{◌≡◌, ap, ◌∙◌}
use mathlib.Core.Logic.{◌≢◌}
use mathlib.Core.List.{List}
use Prim.Native.Nat.{ℕ}
use native.Mathlib.Omega.{arith}
use lib.ListN.{length, take}
use borrow.Author.Tests.{eq-eqb, ne_eqb}
use Rattle.lists.specs.Lists.{zeros}
use Rattle.cells.specs.Box.{volume}
use Rattle.cells.specs.declared.Triple.{Triple}
use Rattle.cells.specs.Extents.{Sized}
use Rattle.cells.specs.Grid.{cells}
use Rattle.extents.proofs.SizeLaws.{sized_of, sized_within}
use Rattle.labels.specs.Number.{labels}
use Rattle.text.specs.Request.{text_refusal, asked_extents, asked_codes}
use Rattle.text.specs.Listing.{refused_line, printed}
use Rattle.parser.specs.Scanning.{state, begun, after}
use Rattle.parser.specs.Asked.{Task, Outcome, task_of, finished}
use Rattle.parser.proofs.TextLaws.{accepted_of, text_read}
use Rattle.labeller.specs.Labelling as labeller
use Rattle.labeller.proofs.LabellingLaws.{ready_accepted}
use Rattle.text_tray.specs.Sunk.{fitting, part}
use Rattle.printer.specs.Printing as printer
use Rattle.printer.proofs.LabelledLaws.{labels_printed}

-- ---- the program

labelled : (e : Triple) (codes m w : List ℕ) → Sized 8 e → length codes ≡ volume e → length m ≡ cells e → length w ≡ cells e
    → labeller.labelling e codes m w ≡ labeller.accepted e codes
unfolding labeller.labelling
labelled e codes m w s k i j =
    let ready : labeller.Ready e (length codes) (length m) (length w) = record { sized = sized_within (omega arith) s; codes_are = k; map_is = i; work_is = j } in
    let z : labeller.refusal_of e (length codes) (length m) (length w) ≡ 0 = ready_accepted e (length codes) (length m) (length w) ready in
    rw z

-- A text read in whole, in any chunks (`after_append`), into a tray of 512 places.
module _ (text d : List ℕ) (room : length d ≡ 512) where
  abbrev told : Outcome
  told = finished (after (state begun d) text)

  -- the line of a refusal
  pub prints_refusal : text_refusal text ≢ 0 → (told.task ≡ Task.PrintRefused (text_refusal text)) × (refused_line (text_refusal text) ≡ printed text)
  unfolding printed task_of
  prints_refusal r = ((text_read d text room).task ∙ rw (ne_eqb _ _ r), rw (ne_eqb _ _ r))

  module _ (z : text_refusal text ≡ 0) where
    abbrev e : Triple
    e = asked_extents text

    -- the extents that are told
    pub tells_extents : told.task ≡ Task.ListVolume e.x e.y e.z
    unfolding task_of
    tells_extents = (text_read d text room).task ∙ rw (eq-eqb _ _ z)

    module _ (m w : List ℕ) (i : length m ≡ cells e) (j : length w ≡ cells e) where
      -- the codes are labelled
      pub labels_codes : labeller.labelling e (take (volume e) told.tray) m w ≡ labeller.accepted e (asked_codes text)
      labels_codes =
          let a = accepted_of text z in
          ap (λ (c : List ℕ). labeller.labelling e c m w) ((text_read d text room).codes z)
          ∙ labelled e (asked_codes text) m w (sized_of 8 _ a.size) a.enough i j

      -- and the listing of their map is printed
      pub prints_listing : (from : ℕ) (t : List ℕ) → printer.printing e (labels e (asked_codes text)) w from t
          ≡ printer.outcome (fitting from (printed text) (length t)) (zeros (length w)) (part from (printed text) t)
      unfolding printed printer.listed
      prints_listing from t = labels_printed e (asked_codes text) w from t (accepted_of text z).size j ∙ rw (eq-eqb _ _ z)
