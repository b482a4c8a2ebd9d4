-- An accepted seam keeps the invariant.
-- Assumes nothing.
use mathlib.Core.Bool.{false, true}
use mathlib.Core.List.Memᴰ
use mathlib.Core.List.{List, Memᴰ, ◌∷◌}
use mathlib.Core.Logic.{◌⊎◌, inl, inr}
use mathlib.Core.Path.{◌∙◌, ◌≡◌, ap, refl, subst, sym}
use Prim.Native.Nat.{◌*◌, ◌<◌, ℕ}
use native.Mathlib.Omega.{arith}
use lib.ListN.{length}
use Rattle.lists.specs.Lists.{some_of}
use Rattle.closure.specs.Joined.{edge}
use Rattle.cutting.specs.Cutting.{block_extents, blocks, good_cut, seam}
use Rattle.joiner.specs.Book.{Book, book_adds, book_after, entered}
use Rattle.joiner.specs.Calls.{Call, differs, join}
use Rattle.joiner.specs.Declines.{adds}
use Rattle.joiner.specs.Outcomes.{AtSeam, Merged, SeamDone, Ticked}
use Rattle.joiner.specs.Job.{Curve, Face, Kind, Seam, Stage, State, Told, node, stage_number, ticks_per_block}
use Rattle.joiner.specs.Stages.{crossing_step, seam_step, shared, steps_of}
use Rattle.lists.proofs.Table.{every}
use Rattle.joiner.proofs.Inv.{EdgeDone, In, Inv, SeamEdge}
use Rattle.joiner.proofs.Later.{Later, after, edge_inside, inv_later, move_seam, same_node, same_sofar, seam_inside, seam_there}
use Rattle.joiner.proofs.Progress.{crossing_level, seam_level, step_stage}
use Rattle.joiner.proofs.Roots.{Connected, connected_more}
use Rattle.joiner.proofs.SeamSteps.{axis_bound, seam_in, seam_step_same}
use Rattle.joiner.proofs.Shared.{seam_listed}
use Rattle.joiner.proofs.Sizes.{Sizes, sizes_after}
use Rattle.joiner.proofs.Passed.{Passed}

module _ (o : Told) (own : ℕ → List ℕ) (good : good_cut o.cutting ≡ true) (B : Book) (s : State) (I : Inv o own B s) (every : (b : ℕ) → b < blocks o.cutting → In o own B b)
    (t : State) (b c : ℕ) (z : seam o.cutting b c ≡ true) (at_stage : B.stage ≡ Seam) (D : SeamDone s b c (own b) (own c) t) (room : Passed s (join b c (own b) (own c))) where
  abbrev call : Call
  call = join b c (own b) (own c)

  abbrev st : ℕ
  st = seam_step o.cutting (edge b c)

  none_added : (κ : Kind) → adds s call κ ≡ 0
  unfolding adds
  none_added κ = refl

  none_in_book : (κ : Kind) → adds s call κ ≡ book_adds B call κ
  unfolding adds book_adds
  none_in_book κ = refl

  sizes' : Sizes o t.tables
  sizes' =
      sizes_after o s t _ I.sizes D.step.ticks D.blocks D.faces.size D.curves.size D.found
      (λ κ. record { numbers = ap length (D.numbers κ).numbers; firsts = ap length (D.numbers κ).firsts; listed = ap length (D.numbers κ).listed })

  step_low' : st < ticks_per_block * blocks o.cutting
  unfolding seam_step
  step_low' = omega (arith, axis_bound o.cutting b c, seam_listed o.cutting b c z)

  L : Later o own good B s I every t call st
  L =
      record {
        ticking = subst (λ (k : Told). Ticked s t call (seam_step k.cutting (edge b c))) I.told D.step;
        same_blocks = D.blocks;
        same_faces = D.found Face;
        same_curves = D.found Curve;
        same_adds = none_in_book;
        no_faces = none_added Face;
        no_curves = none_added Curve;
        step_in = subst (λ (q : Stage). Memᴰ st (steps_of o.cutting q)) (sym at_stage) (seam_in o.cutting b c z);
        step_low = step_low';
        pass = room;
        sizes = sizes';
      }

  abbrev B₀ : Book
  B₀ = after o own good B s I every t call st L

  seam_stage : stage_number B.stage ≡ stage_number Seam
  seam_stage = ap stage_number at_stage

  no_cross : (d : ℕ) → Memᴰ (crossing_step d) (st ∷ B.done) → ⊥
  no_cross d m = go (Memᴰ.cases_cons m)
    where
      go : (crossing_step d ≡ st) ⊎ Memᴰ (crossing_step d) B.done → ⊥
      go (inl e) = omega (arith, ap step_stage e, crossing_level d, seam_level o.cutting (edge b c))
      go (inr n) = omega (arith, I.progress.past (crossing_step d) n, crossing_level d, seam_stage)

  old_seam : (κ : Kind) (x y : ℕ) → SeamEdge o own B s κ x y → SeamEdge o own B₀ t κ x y
  old_seam = seam_there o own good B s I every t call st L

  nodes_same : (κ : Kind) (d i : ℕ) → node t.tables κ d i ≡ node s.tables κ d i
  nodes_same = same_node o own good B s I every t call st L

  new_seam : (κ : Kind) (x y : ℕ) → AtSeam o.cutting s.tables κ b c (own b) (own c) x y → SeamEdge o own B₀ t κ x y
  unfolding entered
  new_seam κ x y a = record { b = b; c = c; joint = z; ticked_in_lem = Memᴰ.head refl; at = move_seam s.tables t.tables (λ d i. sym (nodes_same κ d i)) a }

  only_seam : (κ : Kind) (x y : ℕ) → SeamEdge o own B₀ t κ x y → SeamEdge o own B s κ x y ⊎ AtSeam o.cutting s.tables κ b c (own b) (own c) x y
  unfolding entered
  only_seam κ x y e = go (Memᴰ.cases_cons e.ticked_in_lem)
    where
      was : AtSeam o.cutting s.tables κ e.b e.c (own e.b) (own e.c) x y
      was = move_seam t.tables s.tables (nodes_same κ) e.at

      go : (seam_step o.cutting (edge e.b e.c) ≡ st) ⊎ Memᴰ (seam_step o.cutting (edge e.b e.c)) B.done → SeamEdge o own B s κ x y ⊎ AtSeam o.cutting s.tables κ b c (own b) (own c) x y
      go (inl q) =
          let r = seam_step_same o.cutting e.b e.c b c e.joint z q in
          inr (subst (λ (v : ℕ). AtSeam o.cutting s.tables κ b v (own b) (own v) x y) r.1 (subst (λ (u : ℕ). AtSeam o.cutting s.tables κ u e.c (own u) (own e.c) x y) r.0 was))
      go (inr n) = inl (record { b = e.b; c = e.c; joint = e.joint; ticked_in_lem = n; at = was })

  tally : (κ : Kind) → t.job.sofar κ ≡ s.job.sofar κ
  tally κ = same_sofar o own good B s I every t call st L κ (none_added κ)

  faces₀ : Connected (t.tables.links Face) (t.job.sofar Face) (EdgeDone o own B₀ t Face)
  faces₀ =
      subst (λ (n : ℕ). Connected (t.tables.links Face) n (SeamEdge o own B₀ t Face)) (sym (tally Face))
      (connected_more (s.tables.links Face) (t.tables.links Face) (s.job.sofar Face) (SeamEdge o own B s Face) (AtSeam o.cutting s.tables Face b c (own b) (own c)) (SeamEdge o own B₀ t Face)
      I.faces.linked
      (subst (λ (k : Told). Merged (s.tables.links Face) (t.tables.links Face) (AtSeam k.cutting s.tables Face b c (own b) (own c))) I.told D.faces)
      (seam_inside o own good B s I every Face I.faces b c z) (old_seam Face) (new_seam Face) (only_seam Face) (λ x y e. edge_inside o own good B s I every Face x y e I.faces))

  curves₀ : Connected (t.tables.links Curve) (t.job.sofar Curve) (EdgeDone o own B₀ t Curve)
  curves₀ =
      subst (λ (n : ℕ). Connected (t.tables.links Curve) n (EdgeDone o own B₀ t Curve)) (sym (tally Curve))
      (connected_more (s.tables.links Curve) (t.tables.links Curve) (s.job.sofar Curve) (EdgeDone o own B s Curve) (AtSeam o.cutting s.tables Curve b c (own b) (own c)) (EdgeDone o own B₀ t Curve)
      I.curves.linked
      (subst (λ (k : Told). Merged (s.tables.links Curve) (t.tables.links Curve) (AtSeam k.cutting s.tables Curve b c (own b) (own c))) I.told D.curves)
      (seam_inside o own good B s I every Curve I.curves b c z) old (λ x y a. inl (new_seam Curve x y a)) only (λ x y e. edge_inside o own good B s I every Curve x y e I.curves))
    where
      old : (x y : ℕ) → EdgeDone o own B s Curve x y → EdgeDone o own B₀ t Curve x y
      old x y (inl e) = inl (old_seam Curve x y e)
      old x y (inr e) = absurd (no_cross e.b (Memᴰ.tail e.ticked_in_lem))

      only : (x y : ℕ) → EdgeDone o own B₀ t Curve x y → EdgeDone o own B s Curve x y ⊎ AtSeam o.cutting s.tables Curve b c (own b) (own c) x y
      only x y (inl e) = keep_side (only_seam Curve x y e)
        where
          keep_side : SeamEdge o own B s Curve x y ⊎ AtSeam o.cutting s.tables Curve b c (own b) (own c) x y → EdgeDone o own B s Curve x y ⊎ AtSeam o.cutting s.tables Curve b c (own b) (own c) x y
          keep_side (inl q) = inl (inl q)
          keep_side (inr q) = inr q
      only x y (inr e) = absurd (no_cross e.b (unfold entered in e.ticked_in_lem))

  layers₀ : (d e : ℕ) → seam o.cutting d e ≡ true → Memᴰ (seam_step o.cutting (edge d e)) (st ∷ B.done) → some_of (differs (block_extents o.cutting d) (own d) (own e)) (shared o.cutting d e) ≡ false
  layers₀ d e w m = go (Memᴰ.cases_cons m)
    where
      this : some_of (differs (block_extents o.cutting b) (own b) (own c)) (shared o.cutting b c) ≡ false
      this = ap (λ (k : Told). some_of (differs (block_extents k.cutting b) (own b) (own c)) (shared k.cutting b c)) (sym I.told) ∙ room.layers

      go : (seam_step o.cutting (edge d e) ≡ st) ⊎ Memᴰ (seam_step o.cutting (edge d e)) B.done → some_of (differs (block_extents o.cutting d) (own d) (own e)) (shared o.cutting d e) ≡ false
      go (inl q) =
          let r = seam_step_same o.cutting d e b c w z q in
          ap (λ (u : ℕ). some_of (differs (block_extents o.cutting u) (own u) (own e)) (shared o.cutting u e)) r.0
          ∙ ap (λ (v : ℕ). some_of (differs (block_extents o.cutting b) (own b) (own v)) (shared o.cutting b v)) r.1
          ∙ this
      go (inr n) = I.layers d e w n

  pub join_keeps : Inv o own (book_after B (join b c (own b) (own c))) t
  unfolding book_after
  join_keeps =
      subst (λ (k : Told). Inv o own (entered B (seam_step k.cutting (edge b c)) B.maps (book_adds B (join b c (own b) (own c)))) t) (sym I.btold)
      (inv_later o own good B s I every t call st L (λ κ. omega (arith, (D.numbers κ).numbered, I.numbered κ, tally κ)) faces₀ curves₀ layers₀)
