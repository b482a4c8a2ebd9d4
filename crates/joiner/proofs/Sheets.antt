-- Two closed jobs of one volume have the same sheet and the same lookups, whatever their cuttings and the orders of their calls.
-- Assumes nothing.
use mathlib.Core.Bool.{false, true}
use mathlib.Core.List.{List}
use mathlib.Core.Path.{◌∙◌, ◌≡◌, ap, ap₂, refl, subst, sym}
use Prim.Native.Nat.{◌%◌, ◌*◌, ◌/◌, ◌<◌, suc, ℕ}
use native.Mathlib.Omega.{arith}
use lib.ListN.{get_or, length, take}
use lib.Seq.{ext_get_or}
use Rattle.lists.specs.Lists.{tabulate}
use Rattle.cells.specs.Box.{index, place, volume}
use Rattle.cells.specs.declared.Triple.{Triple}
use Rattle.cells.specs.Extents.{off_size}
use Rattle.cells.specs.Grid.{cells, order, sides, voxel_cell}
use Rattle.labels.specs.Components.{component_row, first_cell, largest}
use Rattle.labels.specs.Number.{labels}
use Rattle.cutting.specs.Cutting.{Cutting, block_codes, block_extents, blocks, good_cut}
use Rattle.cutting.specs.Nodes.{part, uncut_map}
use Rattle.joiner.specs.Book.{Book, begun, uncut}
use Rattle.joiner.specs.Outcomes.{all_trays, looked_up}
use Rattle.joiner.specs.Job.{Closed, Kind, State, Told, lengths_fit, order_of, stage_number, width}
use Rattle.joiner.specs.Sheets.{ClosedJob, Sheet}
use Rattle.joiner.specs.Stages.{code_in, codes_of, has_cell}
use Rattle.joiner.specs.Statement.{Labelling, Uncut}
use Rattle.lists.proofs.Lists.{get_or_tabulate, length-tabulate}
use Rattle.cells.proofs.GridLaws.{voxel_cell_lem, voxel_cell_inside, voxel_cell_order}
use Rattle.labels.proofs.LabelLaws.{labels_numbering}
use Rattle.cutting.proofs.BlockLaws.{voxel_same}
use Rattle.joiner.proofs.Codes.{lowest_of, local_of, in_lowest}
use Rattle.joiner.proofs.Final.{uncut_is}
use Rattle.joiner.proofs.Readings.{cell_read}
use Rattle.joiner.proofs.Simulation.{Sim, closed_uncut, finals_at, simulated}
use Rattle.joiner.proofs.Statement3.{begun_sim, opened_passed}

-- the codes of the blocks' maps are those of the volume
pub codes_back : (k : Cutting) (good : good_cut k ≡ true) (codes : List ℕ) (own : ℕ → List ℕ) → length codes ≡ volume k.extents → ((b : ℕ) → b < blocks k → own b ≡ part k codes b) → codes_of k own ≡ codes
unfolding codes_of
codes_back k good codes own many h =
    ext_get_or 0 (tabulate (volume k.extents) (λ v. code_in k own (place (sides k.extents) (voxel_cell k.extents v)))) codes
    (length-tabulate (volume k.extents) _ ∙ sym many)
    (λ v l.
    let hv : v < volume k.extents = omega (arith, length-tabulate (volume k.extents) (λ v. code_in k own (place (sides k.extents) (voxel_cell k.extents v)))) in
    get_or_tabulate (volume k.extents) (λ v. code_in k own (place (sides k.extents) (voxel_cell k.extents v))) v hv
    ∙ code_here (voxel_cell k.extents v) (voxel_cell_inside k.extents v hv) (voxel_cell_order k.extents v hv)
    ∙ (labels_numbering k.extents codes).voxels (voxel_cell k.extents v) (voxel_cell_inside k.extents v hv) (voxel_cell_order k.extents v hv)
    ∙ ap (λ (x : ℕ). get_or codes x 0) (voxel_cell_lem k.extents v hv))
  where
    in_block : (t : ℕ) → code_in k own (place (sides k.extents) t) ≡ get_or (own (lowest_of k t)) (local_of k t) 0
    in_block t = unfold code_in in refl

    code_here : (t : ℕ) → t < cells k.extents → order k.extents t ≡ 3 → code_in k own (place (sides k.extents) t) ≡ get_or (uncut_map k codes) t 0
    code_here t ht ot =
        let b : ℕ = lowest_of k t in
        let l = in_lowest k good t ht in
        in_block t ∙ ap (λ (m : List ℕ). get_or m (local_of k t) 0) (h b l.listed) ∙ voxel_same k good codes b l.listed (local_of k t) l.within (l.level ∙ ot) ∙ ap (λ (x : ℕ). get_or (uncut_map k codes) x 0) l.is

module _ (e : Triple) (codes : List ℕ) (s : State) (J : ClosedJob e codes s) where
  abbrev passed_open : (off_size 1024 J.told.cutting.extents ≡ false) × (good_cut J.told.cutting ≡ true) × (lengths_fit (all_trays J.told J.lent) ≡ true)
  passed_open = opened_passed J.told J.lent J.opened.accepted

  -- each map is one that a labelling left
  labellings : (b : ℕ) → b < blocks J.told.cutting → Labelling (block_extents J.told.cutting b) (J.own b)
  labellings b hb = record { codes = block_codes J.told.cutting b codes; many = block_many; left = J.maps b hb }
    where
      block_many : length (block_codes J.told.cutting b codes) ≡ volume (block_extents J.told.cutting b)
      block_many = unfold block_codes in length-tabulate (volume (block_extents J.told.cutting b)) _

  codes_are : codes_of J.told.cutting J.own ≡ codes
  codes_are = codes_back J.told.cutting passed_open.1 codes J.own (subst (λ (x : Triple). length codes ≡ volume x) (sym J.extents) J.many) (λ b hb. J.maps b hb)

  -- the book at the end of the list
  end : (B : Book) × Sim J.told J.own passed_open.0 passed_open.1 labellings B s
  end =
      let w = simulated J.told J.own passed_open.0 passed_open.1 labellings (begun J.told) J.begin J.calls (begun_sim J.told J.lent J.begin J.own J.opened labellings) J.run J.fair in
      (w.0, subst (Sim J.told J.own passed_open.0 passed_open.1 labellings w.0) J.left w.1)

  at_closed : stage_number end.0.stage ≡ stage_number Closed
  at_closed = ap stage_number (sym end.1.inv.stage ∙ J.closed)

  volume_is : uncut end.0 ≡ labels e codes
  volume_is =
      uncut_is J.told J.own passed_open.1 labellings end.0 s end.1.inv (omega (arith, at_closed))
      ∙ ap₂ labels J.extents codes_are

  told_is : end.0.told.cutting.extents ≡ e
  told_is = ap (λ (z : Told). z.cutting.extents) end.1.inv.btold ∙ J.extents

  -- what the sheet shows is the uncut volume's
  pub closed_sheet : (κ : Kind)
      → Sheet s κ (largest e (labels e codes) (order_of κ)) (tabulate (largest e (labels e codes) (order_of κ)) (λ i. first_cell e (labels e codes) (order_of κ) (suc i)))
      (tabulate (width κ * largest e (labels e codes) (order_of κ)) (λ i. get_or (component_row e (labels e codes) (order_of κ) (suc (i / width κ))) (i % width κ) 0))
  closed_sheet κ =
      let u : Uncut end.0 s κ = closed_uncut J.told J.own passed_open.0 passed_open.1 labellings end.0 s end.1 at_closed κ in
      let n : s.job.numbered κ ≡ largest e (labels e codes) (order_of κ) = u.total ∙ ap₂ (λ (x : Triple) (m : List ℕ). largest x m (order_of κ)) told_is volume_is in
      record {
        count_is = n;
        firsts_are = subst (λ (a : ℕ). take a (s.tables.firsts κ) ≡ tabulate a (λ i. first_cell e (labels e codes) (order_of κ) (suc i))) n
            (u.firsts ∙ ap₂ (λ (x : Triple) (m : List ℕ). tabulate (s.job.numbered κ) (λ i. first_cell x m (order_of κ) (suc i))) told_is volume_is);
        rows_are = subst (λ (a : ℕ). take (width κ * a) (s.tables.listed κ) ≡ tabulate (width κ * a) (λ i. get_or (component_row e (labels e codes) (order_of κ) (suc (i / width κ))) (i % width κ) 0)) n
            (u.rows ∙ ap₂ (λ (x : Triple) (m : List ℕ). tabulate (width κ * s.job.numbered κ) (λ i. get_or (component_row x m (order_of κ) (suc (i / width κ))) (i % width κ) 0)) told_is volume_is);
      }

  -- a cell looked up from any block that has it holds what the uncut map has there
  pub closed_lookup : (b : ℕ) (c : Triple) → b < blocks J.told.cutting → has_cell J.told.cutting b c ≡ true → looked_up s b (J.own b) c ≡ get_or (labels e codes) (index (sides e) c) 0
  closed_lookup b c hb h =
      cell_read J.told J.own passed_open.1 labellings end.0 s end.1.inv (omega (arith, at_closed)) (finals_at J.told J.own passed_open.0 passed_open.1 labellings end.0 s end.1 at_closed) b c hb h
      ∙ ap₂ (λ (x : Triple) (m : List ℕ). get_or m (index (sides x) c) 0) told_is volume_is

-- the same sheet for two closed jobs of one volume
pub same_count : (e : Triple) (codes : List ℕ) (s t : State) → ClosedJob e codes s → ClosedJob e codes t → (κ : Kind) → s.job.numbered κ ≡ t.job.numbered κ
same_count e codes s t J L κ = (closed_sheet e codes s J κ).count_is ∙ sym (closed_sheet e codes t L κ).count_is

pub same_firsts : (e : Triple) (codes : List ℕ) (s t : State) → ClosedJob e codes s → ClosedJob e codes t → (κ : Kind) → take (s.job.numbered κ) (s.tables.firsts κ) ≡ take (t.job.numbered κ) (t.tables.firsts κ)
same_firsts e codes s t J L κ =
    let a = closed_sheet e codes s J κ in
    let b = closed_sheet e codes t L κ in
    ap (λ (n : ℕ). take n (s.tables.firsts κ)) a.count_is ∙ a.firsts_are ∙ sym b.firsts_are ∙ ap (λ (n : ℕ). take n (t.tables.firsts κ)) (sym b.count_is)

pub same_rows : (e : Triple) (codes : List ℕ) (s t : State) → ClosedJob e codes s → ClosedJob e codes t → (κ : Kind)
    → take (width κ * s.job.numbered κ) (s.tables.listed κ) ≡ take (width κ * t.job.numbered κ) (t.tables.listed κ)
same_rows e codes s t J L κ =
    let a = closed_sheet e codes s J κ in
    let b = closed_sheet e codes t L κ in
    ap (λ (n : ℕ). take (width κ * n) (s.tables.listed κ)) a.count_is ∙ a.rows_are ∙ sym b.rows_are ∙ ap (λ (n : ℕ). take (width κ * n) (t.tables.listed κ)) (sym b.count_is)

pub same_lookup : (e : Triple) (codes : List ℕ) (s t : State) (J : ClosedJob e codes s) (L : ClosedJob e codes t) (b d : ℕ) (c : Triple) → b < blocks J.told.cutting → d < blocks L.told.cutting
    → has_cell J.told.cutting b c ≡ true → has_cell L.told.cutting d c ≡ true → looked_up s b (J.own b) c ≡ looked_up t d (L.own d) c
same_lookup e codes s t J L b d c hb hd h g = closed_lookup e codes s J b c hb h ∙ sym (closed_lookup e codes t L d c hd g)
