-- The ways of the tests of the readings' step, and that they are those of the definition.
-- Assumes nothing.
use mathlib.Core.Path.{◌≡◌, refl, sym, ◌∙◌, ap}
use mathlib.Core.Bool.{Bool, true, false, not, ◌&&◌, cond}
use mathlib.Core.List.{List, [], ◌∷◌, ◌++◌}
use Prim.Native.Nat.{ℕ, zero, suc, ◌*◌, ◌≤◌, ◌<◌, ◌+◌}
use native.Mathlib.Numerals.{add-one}
use native.Mathlib.Omega.{arith}
use lib.Dec.{eqb, ltb}
use lib.ListN.{get_or, length}
use lib.Ieee.{Float}
use borrow.Author.Tests.{eqb-true}
use Rattle.std.specs.List.{list_all, range_with_len}
use Rattle.lists.specs.Lists.{consecutive, all_of}
use Rattle.lists.proofs.Cases.{and_first, and_second}
use Rattle.cells.specs.Box.{triple, volume}
use Rattle.cells.specs.declared.Triple.{Triple}
use Rattle.cells.specs.Extents.{Sized, off_size}
use Rattle.cells.specs.Grid.{cells}
use Rattle.cutting.specs.Cutting.{Cutting, blocks, block_extents, good_cut, most_blocks, FewBlocks}
use Rattle.joiner.specs.Job.{Face, Closed, tray, lengths_fit, Tables, State, same_stage, count_of, from_of, number_trays, numbers_per_block}
use Rattle.joiner.specs.Declines.{tallies_fit, map_stands, number_stands}
use Rattle.joiner.proofs.Passed.{fits_at_lem}
use Rattle.blocks.specs.Blocks.{Tells, size_of, AnyExtents}
use Rattle.blocks.specs.declared.Block.{Block}
use Rattle.blocks.specs.declared.Cuts.{Cuts}
use Rattle.job.specs.declared.Job.{Job}
use Rattle.job.specs.JobState.{AnyCuts, job_of, job_by, state_by, total_lengths}
use Rattle.job.proofs.JobLaws.{fits_append}
use Rattle.judge.specs.declared.Entry.{Entry}
use Rattle.judge.specs.Judge.{reached_of, entry_of, map_stands_in, number_stands_in, first_refusal, opened_of}
use Rattle.judge.proofs.JudgeLaws.{passed_first, reached_passed, FirstTests, few_of, count_few, block_sized, stands_is, number_of}
use Rattle.totals.specs.Totals.{Holds, readings_fit}
use Rattle.totals.proofs.TotalLaws.{fewer_holds}
use Rattle.pass_strain.specs.BlockReadings.{Whole}
use Rattle.strain_calls.specs.Tables.{total_tables, TotalTables, total_trays}
use Rattle.judge_strain.specs.Tests.{Sizes, sizes_of, lists_in, trays_fit, face_in, faces_in, stand_in, late_of, refusal_of}
use Rattle.refusals.specs.Refusals.{number, table, first, given_by, stands_in}
use Rattle.stages.specs.Ticks.{ticked_in}
use Rattle.strain_calls.specs.Calls.{strain, lists_fit}
use Rattle.strain_calls.specs.Declines.{has_come, lent_for, total_stands, face_stands, faces_stand, strain_declines, strain_refusal}
use Rattle.strain_calls.proofs.HoldsLaws.{face_holds}

-- ---- a search through numbers

range_is : (i n : ℕ) → range_with_len i n ≡ consecutive i n
unfolding consecutive
range_is i zero = refl
range_is i (suc n) = rw (range_is (i + 1) n, add-one i)

all_is : (f : ℕ → Bool) (l : List ℕ) → list_all f l ≡ all_of f l
all_is f [] = refl
all_is f (x ∷ xs) = rw (all_is f xs)

all_range : (f : ℕ → Bool) (i n : ℕ) → list_all f (range_with_len i n) ≡ all_of f (consecutive i n)
all_range f i n = rw (range_is i n, all_is f)

-- ---- the lengths

-- what fits has the lengths of a block of e voxels, a tick for each block, and two sums and six counts for each face
pub whole_of : (count : ℕ) (e : Triple) (faces : ℕ) (z : Sizes) → trays_fit count e faces z ≡ true
    → (z.cells ≡ cells e) × (z.values ≡ volume e) × (z.kinds ≡ volume e) × (z.came ≡ count) × (z.sums ≡ 2 * faces) × (z.counts ≡ 6 * faces)
unfolding trays_fit lists_in
whole_of count e faces z h =
    let lent = total_lengths count faces z.came z.sums z.counts in
    let l = and_first (lists_in e z.cells z.values z.kinds) _ h in
    let r = and_second (eqb z.cells (cells e)) _ l in
    let s = and_second (lengths_fit (tray z.blocks (numbers_per_block * count) ∷ [])) (lengths_fit (tray z.numbers faces ∷ []) && lengths_fit lent) (and_second (lists_in e z.cells z.values z.kinds) _ h) in
    let u = and_second (lengths_fit (tray z.numbers faces ∷ [])) (lengths_fit lent) s in (
      eqb-true _ _ (and_first (eqb z.cells (cells e)) _ l),
      eqb-true _ _ (and_first (eqb z.values (volume e)) _ r),
      eqb-true _ _ (and_second (eqb z.values (volume e)) (eqb z.kinds (volume e)) r),
      fits_at_lem lent 0 u,
      fits_at_lem lent 1 u,
      fits_at_lem lent 2 u,
    )

-- ---- the faces of a block

module _ (numbers : List ℕ) (most : ℕ) (sums : List Float) (counts : List ℕ) (x : ℕ) (t : Bool) (h : t ≡ number_stands_in numbers most x) where
  -- what `both_stand` requires
  pub face_ready : t ≡ true → (n : ℕ) → n ≡ get_or numbers x 0 → Holds sums counts most → (0 < n) × Holds sums counts n
  unfolding number_stands_in
  face_ready q n e H =
      let p = number_of n most (rw e (sym h ∙ q)) in
      (p.0, fewer_holds sums counts n most p.1 H)

pub faces_are : (numbers : List ℕ) (most : ℕ) (sums : List Float) (counts : List ℕ) (from n size size' : ℕ) → size ≡ size'
    → list_all (face_in numbers most size sums counts) (range_with_len from n) ≡ faces_in numbers most size' sums counts from n
unfolding faces_in
faces_are numbers most sums counts from n size size' e = rw (← e) (all_range (face_in numbers most size sums counts) from n)

module _ (j : Job) (t : Bool) (h : AnyCuts (λ cx cy cz. t ≡ tallies_fit (job_of j cx cy cz))) where
  -- what `faces_stand` requires
  pub stand_holds : (sums : List Float) (counts : List ℕ) → t ≡ true → Holds sums counts j.entries.faces → Holds sums counts j.numbered.faces
  stand_holds sums counts q = face_holds (job_of j [] [] []) sums counts j.numbered.faces (sym (h [] [] []) ∙ q) (omega arith)

  module _ (e : Triple) (d : Entry) (numbers : List ℕ) (sums : List Float) (counts m : List ℕ) where
    abbrev Stands : Bool → Type 0
    Stands r = AnyCuts (λ cx cy cz. r ≡ stand_in (job_of j cx cy cz) e d numbers sums counts m)

    pub stand_tallies : t ≡ false → Stands false
    unfolding stand_in
    stand_tallies q cx cy cz = rw (sym (h cx cy cz) ∙ q)

    module _ (q : t ≡ true) (u : Bool) (i : u ≡ map_stands_in e d j.entries.faces j.entries.curves m) where
      pub stand_map : u ≡ false → Stands false
      unfolding stand_in
      stand_map p cx cy cz = rw (sym (h cx cy cz) ∙ q, sym i ∙ p)

      pub stand_faces : u ≡ true → (r : Bool) → r ≡ faces_in numbers j.numbered.faces (cells (triple j.nx j.ny j.nz)) sums counts d.face_from d.faces → Stands r
      unfolding stand_in
      stand_faces p r f cx cy cz = rw (sym (h cx cy cz) ∙ q, sym i ∙ p) f

-- ---- the ways of `late`

module _ (j : Job) (e : Triple) (d : Entry) (numbers : List ℕ) (sums : List Float) (counts m : List ℕ) (values : List Float) (kinds : List ℕ) (t : Bool)
    (h : AnyCuts (λ cx cy cz. t ≡ stand_in (job_of j cx cy cz) e d numbers sums counts m)) where
  abbrev Late : ℕ → Type 0
  Late r = AnyCuts (λ cx cy cz. r ≡ late_of (job_of j cx cy cz) e d numbers sums counts m values kinds)

  pub late_8 : t ≡ false → Late 8
  unfolding late_of
  late_8 q cx cy cz = rw (sym (h cx cy cz) ∙ q)

  pub late_last : t ≡ true → (u : Bool) → u ≡ readings_fit values kinds → (r : ℕ) → r ≡ cond (not u) 12 0 → Late r
  unfolding late_of
  late_last q u i r p cx cy cz = rw (sym (h cx cy cz) ∙ q, ← i) p

-- ---- the ways of `judge_readings`

-- a block that is reached
module _ (j : Job) (cuts : Cuts) (came : List ℕ) (b : ℕ) (e : 0 ≡ reached_of (job_by j cuts) Closed came b b) where
  abbrev k : Cutting
  k = (job_by j cuts).told.cutting

  abbrev extents_of : Triple
  extents_of = triple j.nx j.ny j.nz

  passed : FirstTests (job_by j cuts) Closed × (b < blocks k)
  passed = reached_passed (job_by j cuts) Closed came b b (sym e)

  -- what `block_count` requires
  pub judge_few : FewBlocks cuts.x.now cuts.y.now cuts.z.now
  judge_few = few_of k passed.0.good

  module _ (r : Block) (T : AnyExtents cuts (λ k. Tells k b r)) (i : ℕ) (c : AnyExtents cuts (λ k. i ≡ blocks k)) where
    -- .. and `trays_fit`
    pub judge_sized : (i ≤ most_blocks) × Sized 64 (size_of r)
    judge_sized = (count_few k passed.0.good i (c extents_of), block_sized k passed.0.good b passed.1 r (T extents_of))

    module _ (table numbers : List ℕ) (sums : List Float) (counts m : List ℕ) (values : List Float) (kinds : List ℕ) (t : Bool)
        (h : t ≡ trays_fit i (size_of r) j.entries.faces (sizes_of m values kinds table numbers (total_tables came sums counts))) where
      abbrev z : Sizes
      z = sizes_of m values kinds table numbers (total_tables came sums counts)

      -- .. and `late`
      pub judge_whole : t ≡ true → Whole (size_of r) m values kinds × Sized 1024 (triple j.nx j.ny j.nz) × Holds sums counts j.entries.faces
      judge_whole w =
          let l = whole_of i (size_of r) j.entries.faces z (sym h ∙ w) in (
            record { sized = judge_sized.1; whole = l.0; valued = l.1; kinded = l.2 },
            passed.0.sized,
            record { sums_long = omega (arith, l.4); counts_long = omega (arith, l.5) },
          )

      abbrev Judges : ℕ → Type 0
      Judges n = n ≡ refusal_of (job_by j cuts) table numbers (total_tables came sums counts) b m values kinds

      size_is : size_of r ≡ block_extents k b
      size_is = (T extents_of).size

      trays_told : t ≡ trays_fit (blocks k) (block_extents k b) j.entries.faces z
      trays_told = rw (← c extents_of, ← size_is) h

      pub judge_6 : t ≡ false → Judges 6
      unfolding refusal_of
      judge_6 w = passed_first _ _ 6 e (rw (sym trays_told ∙ w))

      pub judge_late : t ≡ true → (d : Entry) → d ≡ entry_of table b
          → (p : ℕ) → AnyCuts (λ cx cy cz. p ≡ late_of (job_of j cx cy cz) (size_of r) d numbers sums counts m values kinds) → Judges p
      unfolding refusal_of
      judge_late w d f p L = passed_first _ _ p e (rw (sym trays_told ∙ w) (rw (f, size_is) at (L cuts.x.now cuts.y.now cuts.z.now)))

-- ---- the tests are those of the definition

ladder : (a b c d e f g h : Bool)
    → ◌≡◌ {A = ℕ} (cond a 1 (cond (not b) 2 (cond (not c) 3 (cond (not d) 4 (cond e 5 (cond (not f) 6 (cond (not g) 8 (cond (not h) 12 0))))))))
    (first_refusal (first_refusal (cond a 1 (cond (not b) 2 (cond (not c) 3 0))) (cond (not d) 4 (cond e 5 0))) (cond (not f) 6 (cond (not g) 8 (cond (not h) 12 0))))
unfolding first_refusal
ladder true b c d e f g h = refl
ladder false false c d e f g h = refl
ladder false true false d e f g h = refl
ladder false true true false e f g h = refl
ladder false true true true true f g h = refl
ladder false true true true false f g h = refl

module _ (j : Job) (cuts : Cuts) (came : List ℕ) (sums : List Float) (counts : List ℕ) (b : ℕ) (m : List ℕ) (values : List Float) (kinds : List ℕ) (t : Tables) where
  abbrev cut_as : Cutting
  cut_as = (job_by j cuts).told.cutting

  abbrev before : State
  before = state_by j cuts t

  abbrev w : TotalTables
  w = total_tables came sums counts

  come_is : has_come w b ≡ ticked_in came b
  unfolding has_come ticked_in
  come_is = refl

  trays_is : (lists_fit cut_as (strain b m values kinds) && lengths_fit (lent_for before.job.told t w (strain b m values kinds)))
      ≡ trays_fit (blocks cut_as) (block_extents cut_as b) j.entries.faces (sizes_of m values kinds t.blocks (t.numbers Face) w)
  unfolding number_trays total_trays trays_fit lists_in
  trays_is =
      let o = before.job.told in
      ap (λ (x : Bool). lists_fit cut_as (strain b m values kinds) && x)
      (fits_append (tray (length t.blocks) (numbers_per_block * blocks cut_as) ∷ []) (number_trays o t Face ++ total_trays o w) ∙
      ap (λ (x : Bool). lengths_fit (tray (length t.blocks) (numbers_per_block * blocks cut_as) ∷ []) && x) (fits_append (number_trays o t Face) (total_trays o w)))

  faces_is : faces_stand before w b
      ≡ faces_in (t.numbers Face) j.numbered.faces (cells cut_as.extents) sums counts (entry_of t.blocks b).face_from (entry_of t.blocks b).faces
  unfolding faces_stand face_stands total_stands faces_in face_in number_stands number_stands_in from_of count_of entry_of
  faces_is = rw (let q : numbers_per_block * b + 0 ≡ numbers_per_block * b = omega arith in q)

  stand_is : (tallies_fit before.job && (map_stands before (block_extents cut_as b) b m && faces_stand before w b))
      ≡ stand_in (job_by j cuts) (block_extents cut_as b) (entry_of t.blocks b) (t.numbers Face) sums counts m
  unfolding stand_in
  stand_is = rw (stands_is before (block_extents cut_as b) b m, faces_is)

  -- The refusal is that of the definition, which reads nothing else of the joiner's tables.
  pub refusal_is : strain_refusal before w (strain b m values kinds) ≡ refusal_of (job_by j cuts) t.blocks (t.numbers Face) w b m values kinds
  unfolding strain_refusal strain_declines given_by first table number stands_in refusal_of late_of reached_of opened_of
  refusal_is =
      rw (come_is, trays_is, stand_is)
      (ladder (off_size 1024 cut_as.extents) (good_cut cut_as) (same_stage before.job.stage Closed) (ltb b (blocks cut_as)) (ticked_in came b)
      (trays_fit (blocks cut_as) (block_extents cut_as b) j.entries.faces (sizes_of m values kinds t.blocks (t.numbers Face) w))
      (stand_in (job_by j cuts) (block_extents cut_as b) (entry_of t.blocks b) (t.numbers Face) sums counts m) (readings_fit values kinds))
