-- The lengths of the tables.
-- Assumes nothing.
use mathlib.Core.Bool.{◌&&◌, true}
use mathlib.Core.List.{List, [], ◌++◌, ◌∷◌}
use mathlib.Core.Path.{◌≡◌, refl, ap, ◌∙◌}
use Prim.Native.Nat.{◌*◌, ℕ}
use lib.Dec.{eqb}
use lib.ListN.{length, set, length-set}
use borrow.Author.Tests.{eq-eqb, eqb-true}
use Rattle.cutting.specs.Cutting.{blocks}
use Rattle.joiner.specs.Calls.{Call, cross, enrol, join, look, point, reading}
use Rattle.joiner.specs.Declines.{lent_to}
use Rattle.joiner.specs.Outcomes.{all_trays, KeptFound}
use Rattle.joiner.specs.Job.{Curve, Face, Kind, Point, State, Tables, Told, Tray, block_trays, first_trays, lengths_fit, found_trays, kind_trays, link_trays, listed_trays, number_trays, tray, width, ticks_per_block, numbers_per_block}
use Rattle.lists.proofs.Cases.{and_both, and_first, and_second}

pub record Sizes (o : Told) (t : Tables) : Type 0 where
  pub ticks_long : length t.ticks ≡ ticks_per_block * blocks o.cutting
  pub blocks_long : length t.blocks ≡ numbers_per_block * blocks o.cutting
  pub face_links : length (t.links Face) ≡ o.entries Face
  pub curve_links : length (t.links Curve) ≡ o.entries Curve
  pub keys_long : (κ : Kind) → length (t.keys κ) ≡ o.entries κ
  pub rows_long : (κ : Kind) → length (t.rows κ) ≡ width κ * o.entries κ
  pub numbers_long : (κ : Kind) → length (t.numbers κ) ≡ o.entries κ
  pub firsts_long : (κ : Kind) → length (t.firsts κ) ≡ o.entries κ
  pub listed_long : (κ : Kind) → length (t.listed κ) ≡ width κ * o.entries κ

-- The sizes after a step that ticks, keeps what is found and writes only behind or over numbers, first positions and closed rows.
pub record SameLengths (s t : Tables) (κ : Kind) : Type 0 where
  pub numbers : length (t.numbers κ) ≡ length (s.numbers κ)
  pub firsts : length (t.firsts κ) ≡ length (s.firsts κ)
  pub listed : length (t.listed κ) ≡ length (s.listed κ)

pub sizes_after : (o : Told) (s t : State) (i : ℕ) → Sizes o s.tables → t.tables.ticks ≡ set s.tables.ticks i 1 → t.tables.blocks ≡ s.tables.blocks
    → length (t.tables.links Face) ≡ length (s.tables.links Face) → length (t.tables.links Curve) ≡ length (s.tables.links Curve)
    → ((κ : Kind) → KeptFound s t κ) → ((κ : Kind) → SameLengths s.tables t.tables κ) → Sizes o t.tables
sizes_after o s t i S ticks blocks faces curves found lengths =
    record {
      ticks_long = ap length ticks ∙ length-set s.tables.ticks i 1 ∙ S.ticks_long;
      blocks_long = ap length blocks ∙ S.blocks_long;
      face_links = faces ∙ S.face_links;
      curve_links = curves ∙ S.curve_links;
      keys_long = λ κ. ap length (found κ).keys ∙ S.keys_long κ;
      rows_long = λ κ. ap length (found κ).rows ∙ S.rows_long κ;
      numbers_long = λ κ. (lengths κ).numbers ∙ S.numbers_long κ;
      firsts_long = λ κ. (lengths κ).firsts ∙ S.firsts_long κ;
      listed_long = λ κ. (lengths κ).listed ∙ S.listed_long κ;
    }

-- two lists of tables that fit
pub fits_both : (xs ys : List Tray) → lengths_fit xs ≡ true → lengths_fit ys ≡ true → lengths_fit (xs ++ ys) ≡ true
unfolding lengths_fit
fits_both [] ys a b = b
fits_both (x ∷ xs) ys a b =
    and_both (eqb x.has x.states) (lengths_fit (xs ++ ys)) (and_first (eqb x.has x.states) (lengths_fit xs) a) (fits_both xs ys (and_second (eqb x.has x.states) (lengths_fit xs) a) b)

fits_parts : (xs ys : List Tray) → lengths_fit (xs ++ ys) ≡ true → (lengths_fit xs ≡ true) × (lengths_fit ys ≡ true)
unfolding lengths_fit
fits_parts [] ys a = (refl, a)
fits_parts (x ∷ xs) ys a =
    let r = fits_parts xs ys (and_second (eqb x.has x.states) (lengths_fit (xs ++ ys)) a) in
    (and_both (eqb x.has x.states) (lengths_fit xs) (and_first (eqb x.has x.states) (lengths_fit (xs ++ ys)) a) r.0, r.1)

one_fits : (n m : ℕ) → n ≡ m → lengths_fit (tray n m ∷ []) ≡ true
unfolding lengths_fit
one_fits n m e = rw (eq-eqb n m e) refl

two_fit : (n m k l : ℕ) → n ≡ m → k ≡ l → lengths_fit (tray n m ∷ tray k l ∷ []) ≡ true
unfolding lengths_fit
two_fit n m k l e f = rw (eq-eqb n m e, eq-eqb k l f) refl

fits_one : (n m : ℕ) → lengths_fit (tray n m ∷ []) ≡ true → n ≡ m
unfolding lengths_fit
fits_one n m e = eqb-true n m (and_first (eqb n m) true e)

fits_two : (n m k l : ℕ) → lengths_fit (tray n m ∷ tray k l ∷ []) ≡ true → (n ≡ m) × (k ≡ l)
unfolding lengths_fit
fits_two n m k l e = (eqb-true n m (and_first (eqb n m) (eqb k l && true) e), eqb-true k l (and_first (eqb k l) true (and_second (eqb n m) (eqb k l && true) e)))

module _ (o : Told) (t : Tables) where
  -- each table of its stated length: all that a call is lent fit
  module _ (S : Sizes o t) where
    blocks_fit : lengths_fit (block_trays o t) ≡ true
    unfolding block_trays
    blocks_fit = two_fit _ _ _ _ S.ticks_long S.blocks_long

    links_fit : lengths_fit (link_trays o t) ≡ true
    unfolding link_trays
    links_fit = two_fit _ _ _ _ S.face_links S.curve_links

    found_fit : (κ : Kind) → lengths_fit (found_trays o t κ) ≡ true
    unfolding found_trays
    found_fit κ = two_fit _ _ _ _ (S.keys_long κ) (S.rows_long κ)

    -- the final numbers of a kind fit
    pub numbers_fit : (κ : Kind) → lengths_fit (number_trays o t κ) ≡ true
    unfolding number_trays
    numbers_fit κ = one_fits _ _ (S.numbers_long κ)

    firsts_fit : (κ : Kind) → lengths_fit (first_trays o t κ) ≡ true
    unfolding first_trays
    firsts_fit κ = one_fits _ _ (S.firsts_long κ)

    listed_fit : (κ : Kind) → lengths_fit (listed_trays o t κ) ≡ true
    unfolding listed_trays
    listed_fit κ = one_fits _ _ (S.listed_long κ)

    kind_fit : (κ : Kind) → lengths_fit (kind_trays o t κ) ≡ true
    unfolding kind_trays
    kind_fit κ = fits_both _ _ (fits_both _ _ (fits_both _ _ (found_fit κ) (numbers_fit κ)) (firsts_fit κ)) (listed_fit κ)

    pub lent_fit : (c : Call) → lengths_fit (lent_to o t c) ≡ true
    lent_fit (enrol b m) = fits_both _ _ (fits_both _ _ (fits_both _ _ blocks_fit links_fit) (found_fit Face)) (found_fit Curve)
    lent_fit (join b c m n) = fits_both _ _ blocks_fit links_fit
    lent_fit (cross b m) = fits_both _ _ (fits_both _ _ (fits_both _ _ blocks_fit links_fit) (kind_fit Face)) (kind_fit Curve)
    lent_fit (point b m) = fits_both _ _ (fits_both _ _ blocks_fit (numbers_fit Curve)) (kind_fit Point)
    lent_fit (look b m c) = fits_both _ _ (fits_both _ _ (fits_both _ _ blocks_fit (numbers_fit Face)) (numbers_fit Curve)) (firsts_fit Point)
    lent_fit (reading κ n) = fits_both _ _ (fits_both _ _ (listed_fit Face) (listed_fit Curve)) (listed_fit Point)

  -- what an opening tests
  record KindSizes (κ : Kind) : Type 0 where
    keys : length (t.keys κ) ≡ o.entries κ
    rows : length (t.rows κ) ≡ width κ * o.entries κ
    numbers : length (t.numbers κ) ≡ o.entries κ
    firsts : length (t.firsts κ) ≡ o.entries κ
    listed : length (t.listed κ) ≡ width κ * o.entries κ

  kind_sizes : (κ : Kind) → lengths_fit (kind_trays o t κ) ≡ true → KindSizes κ
  unfolding kind_trays found_trays number_trays first_trays listed_trays
  kind_sizes κ e =
      let a = fits_parts (found_trays o t κ ++ number_trays o t κ ++ first_trays o t κ) (listed_trays o t κ) e in
      let b = fits_parts (found_trays o t κ ++ number_trays o t κ) (first_trays o t κ) a.0 in
      let c = fits_parts (found_trays o t κ) (number_trays o t κ) b.0 in
      let d = fits_two _ _ _ _ c.0 in
      record { keys = d.0; rows = d.1; numbers = fits_one _ _ c.1; firsts = fits_one _ _ b.1; listed = fits_one _ _ a.1 }

  pub sizes_of_lem : lengths_fit (all_trays o t) ≡ true → Sizes o t
  unfolding all_trays
  sizes_of_lem e =
      let a = fits_parts (block_trays o t ++ link_trays o t ++ kind_trays o t Face ++ kind_trays o t Curve) (kind_trays o t Point) e in
      let b = fits_parts (block_trays o t ++ link_trays o t ++ kind_trays o t Face) (kind_trays o t Curve) a.0 in
      let c = fits_parts (block_trays o t ++ link_trays o t) (kind_trays o t Face) b.0 in
      let d = fits_parts (block_trays o t) (link_trays o t) c.0 in
      from d.0 d.1 (elim [ Face ↦ kind_sizes Face c.1 | Curve ↦ kind_sizes Curve b.1 | Point ↦ kind_sizes Point a.1 ])
    where
      from : lengths_fit (block_trays o t) ≡ true → lengths_fit (link_trays o t) ≡ true → ((κ : Kind) → KindSizes κ) → Sizes o t
      from b l k =
          let p : (length t.ticks ≡ ticks_per_block * blocks o.cutting) × (length t.blocks ≡ numbers_per_block * blocks o.cutting) = (unfold block_trays in fits_two _ _ _ _ b) in
          let q : (length (t.links Face) ≡ o.entries Face) × (length (t.links Curve) ≡ o.entries Curve) = (unfold link_trays in fits_two _ _ _ _ l) in
          record {
            ticks_long = p.0;
            blocks_long = p.1;
            face_links = q.0;
            curve_links = q.1;
            keys_long = λ κ. (k κ).keys;
            rows_long = λ κ. (k κ).rows;
            numbers_long = λ κ. (k κ).numbers;
            firsts_long = λ κ. (k κ).firsts;
            listed_long = λ κ. (k κ).listed;
          }
