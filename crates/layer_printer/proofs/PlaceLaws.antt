-- Where each byte of a printed layer stands.
-- Assumes nothing.
use mathlib.Core.Path.{◌≡◌, refl, sym, ap, ◌∙◌}
use mathlib.Core.Bool.{true}
use mathlib.Core.List.{List, [], ◌∷◌}
use Prim.Native.Nat.{ℕ, ◌+◌, ◌*◌, ◌/◌, ◌%◌, ◌≤◌, ◌<◌}
use native.Mathlib.Omega.{arith}
use lib.Dec.{eqb, ltb}
use lib.ListN.{length, get_or, take, drop, length-take, length-drop, get_or-append}
use lib.Seq.{ext_get_or, get_or_at, get_or-take, get_or-drop}
use borrow.Author.Tests.{eqb-true, eqb-false, eq-eqb, ne_eqb, ltb-true, ltb-false, lt-ltb, le-ltb}
use Rattle.lists.proofs.Cases.{by_test}
use Rattle.lists.proofs.Overlay.{row_place}
use Rattle.lists.proofs.Pieces.{pieces_at}
use Rattle.cells.specs.Box.{triple, volume, index, place}
use Rattle.cells.specs.declared.Axis.TheVariants.{X, Y, Z}
use Rattle.cells.specs.declared.Triple.{Triple}
use Rattle.cells.proofs.BoxLaws.{Inside, index_place, place_index, place_inside, index_inside}
use Rattle.layer_printer.specs.Printed.{cell_columns, place_columns, first_places, page_line, cell_line, page, page_count, pages}
use Rattle.layer_printer.specs.Places.{byte_box, Owner, of_cell, of_blank, line_end, IsOwner, column_at, place_of, column_owner, owner_at, owner_byte, is_column, LaidOut}
use Rattle.layer_printer.proofs.ColumnLaws.{place_beyond, place_cell, place_five, columns_five, place_column, blank_column}
use Rattle.layer_printer.proofs.PageLaws.{places_length, line_length, page_length, pages_length}

-- ---- the bytes of a line

-- column c of place k
place_byte : (line : List ℕ) (p k c : ℕ) → k < 16 → c < 5 → get_or (page_line line p) (5 * k + c) 0 ≡ get_or (place_columns line (16 * p + k)) c 0
unfolding page_line first_places
place_byte line p k c hk hc =
    get_or-append (first_places line p 16) (10 ∷ []) 0 (5 * k + c) (omega (arith, places_length line p 16))
    ∙ pieces_at (λ i. place_columns line (16 * p + i)) 5 (λ i. place_five line (16 * p + i)) 16 k c hk hc

end_byte : (line : List ℕ) (p : ℕ) → get_or (page_line line p) 80 0 ≡ 10
unfolding page_line
end_byte line p = get_or_at (first_places line p 16) 10 [] 0 80 (places_length line p 16)

-- ---- the places of the bytes

-- w cells lie on their pages
pages_cover : (w : ℕ) → w ≤ 16 * page_count w
unfolding page_count
pages_cover w = omega arith

module _ (w h : ℕ) where
  abbrev box : Triple
  box = byte_box w h

  -- byte b of a line, the line and the page: the place of byte t
  abbrev spot : ℕ → Triple
  spot t = place box t

  box_bytes : volume box ≡ 81 * h * page_count w
  unfolding byte_box volume
  box_bytes = refl

  -- byte b of line y on page p
  at : (b y p : ℕ) → b < 81 → y < h → p < page_count w → Inside box (triple b y p)
  unfolding byte_box
  at b y p hb hy hp X = hb
  at b y p hb hy hp Y = hy
  at b y p hb hy hp Z = hp

  module _ (b y p : ℕ) (hb : b < 81) (hy : y < h) (hp : p < page_count w) where
    byte_inside : index box (triple b y p) < 81 * h * page_count w
    byte_inside = rw box_bytes at (index_inside box (triple b y p) (at b y p hb hy hp))

    byte_back : place box (index box (triple b y p)) ≡ triple b y p
    byte_back = let q = place_index box (triple b y p) (at b y p hb hy hp X) (at b y p hb hy hp Y) in λ i. triple (q X i) (q Y i) (q Z i)

    byte_at : (layer : List ℕ) → get_or (pages w h layer) (index box (triple b y p)) 0 ≡ get_or (page_line (cell_line w layer y) p) b 0
    unfolding pages page index byte_box
    byte_at layer =
        let e : b + y * 81 + p * (81 * h) ≡ 81 * h * p + (81 * y + b) = omega arith in
        rw e
        (pieces_at (page w h layer) (81 * h) (page_length w h layer) (page_count w) p (81 * y + b) hp (row_place 81 y h b hy hb)
        ∙ pieces_at (λ i. page_line (cell_line w layer i) p) 81 (λ i. line_length (cell_line w layer i) p) h y b hy hb)

  -- a byte by its line end, or by the column of a place
  owner_end : (t : ℕ) → (place box t).x ≡ 80 → owner_at w h t ≡ line_end (place box t).z (place box t).y
  unfolding owner_at
  owner_end t e = rw (eq-eqb (place box t).x 80 e)

  owner_column : (t : ℕ) → ((place box t).x ≡ 80 → ⊥) → owner_at w h t ≡ column_owner w (16 * (place box t).z + (place box t).x / 5) (place box t).y ((place box t).x % 5)
  unfolding owner_at
  owner_column t d = rw (ne_eqb (place box t).x 80 d)

  cell_owner : (x y c : ℕ) → x < w → column_owner w x y c ≡ of_cell x y c
  unfolding column_owner
  cell_owner x y c k = rw (lt-ltb x w k)

  blank_owner : (x y c : ℕ) → w ≤ x → column_owner w x y c ≡ of_blank x y c
  unfolding column_owner
  blank_owner x y c k = rw (le-ltb x w k)

  -- ---- from a place of a page to its bytes

  module _ (x y c : ℕ) (hx : x < 16 * page_count w) (hy : y < h) (hc : c < 5) where
    column_low : 5 * (x % 16) + c < 80
    column_low = omega arith

    column_page : x / 16 < page_count w
    column_page = omega arith

    column_inside : column_at w h x y c < 81 * h * page_count w
    unfolding column_at
    column_inside = byte_inside (5 * (x % 16) + c) y (x / 16) (omega (arith, column_low)) hy column_page

    column_back : owner_at w h (column_at w h x y c) ≡ column_owner w x y c
    unfolding column_at
    column_back =
        let b : ℕ = 5 * (x % 16) + c in
        let t : ℕ = index box (triple b y (x / 16)) in
        let q : place box t ≡ triple b y (x / 16) = byte_back b y (x / 16) (omega (arith, column_low)) hy column_page in
        let k : b / 5 ≡ x % 16 = omega arith in
        let i : b % 5 ≡ c = omega arith in
        let s : 16 * (x / 16) + x % 16 ≡ x = omega arith in
        owner_column t (λ e. omega (arith, column_low, ap (λ (d : Triple). d.x) q)) ∙ rw (q, k, i, s)

    column_byte_lem : (layer : List ℕ) → get_or (pages w h layer) (column_at w h x y c) 0 ≡ get_or (place_columns (cell_line w layer y) x) c 0
    unfolding column_at
    column_byte_lem layer =
        let s : 16 * (x / 16) + x % 16 ≡ x = omega arith in
        byte_at (5 * (x % 16) + c) y (x / 16) (omega (arith, column_low)) hy column_page layer
        ∙ place_byte (cell_line w layer y) (x / 16) (x % 16) c (omega arith) hc ∙ rw s

  -- ---- from a byte to its owner

  module _ (t : ℕ) (ht : t < 81 * h * page_count w) where
    byte_within : Inside box (spot t)
    byte_within = place_inside box t (rw box_bytes ht)

    byte_x : (spot t).x < 81
    unfolding byte_box
    byte_x = byte_within X

    byte_y : (spot t).y < h
    unfolding byte_box
    byte_y = byte_within Y

    byte_z : (spot t).z < page_count w
    unfolding byte_box
    byte_z = byte_within Z

    -- the place of a byte that ends no line
    byte_column : ((spot t).x ≡ 80 → ⊥) → (16 * (spot t).z + (spot t).x / 5 < 16 * page_count w) × (column_at w h (16 * (spot t).z + (spot t).x / 5) (spot t).y ((spot t).x % 5) ≡ t)
    unfolding column_at
    byte_column d =
        let low : (spot t).x < 80 = omega (arith, byte_x) in
        let a : (16 * (spot t).z + (spot t).x / 5) % 16 ≡ (spot t).x / 5 = omega arith in
        let b : (16 * (spot t).z + (spot t).x / 5) / 16 ≡ (spot t).z = omega arith in
        let s : 5 * ((spot t).x / 5) + (spot t).x % 5 ≡ (spot t).x = omega arith in
        (omega (arith, byte_z), rw (a, b, s) (index_place box t))

    -- a byte ends its line, or is a column of a cell or of a blank place
    by_owner : (P : Owner → Type 0) → ((spot t).x ≡ 80 → P (line_end (spot t).z (spot t).y))
        → ((x y c : ℕ) → x < 16 * page_count w → y < h → c < 5 → column_at w h x y c ≡ t → (x < w → P (of_cell x y c)) × (w ≤ x → P (of_blank x y c)))
        → P (owner_at w h t)
    by_owner P e f =
        by_test (eqb (spot t).x 80)
        (λ u. let d : (spot t).x ≡ 80 = eqb-true (spot t).x 80 u in rw (owner_end t d) (e d))
        (λ u.
        let d : (spot t).x ≡ 80 → ⊥ = eqb-false (spot t).x 80 u in
        let q = byte_column d in
        let x : ℕ = 16 * (spot t).z + (spot t).x / 5 in
        let g = f x (spot t).y ((spot t).x % 5) q.0 byte_y (omega arith) q.1 in
        rw (owner_column t d)
        (by_test (ltb x w)
        (λ v. let lx = ltb-true x w v in rw (cell_owner x (spot t).y ((spot t).x % 5) lx) (g.0 lx))
        (λ v. let lx = ltb-false x w v in rw (blank_owner x (spot t).y ((spot t).x % 5) lx) (g.1 lx))))

    byte_owned : IsOwner w h (owner_at w h t)
    byte_owned = by_owner (IsOwner w h) (λ _. (byte_z, byte_y)) (λ x y c hx hy hc e. (λ lx. (lx, hy, hc), λ lx. (lx, hx, hy, hc)))

    end_returned : (spot t).x ≡ 80 → place_of w h (line_end (spot t).z (spot t).y) ≡ t
    end_returned e = rw (← e) (index_place box t)

    byte_returned : place_of w h (owner_at w h t) ≡ t
    byte_returned = by_owner (λ a. place_of w h a ≡ t) end_returned (λ x y c hx hy hc e. (λ _. e, λ _. e))

-- ---- all of it

-- number x y is what the layer holds at x and y
module _ (w h : ℕ) (layer : List ℕ) (number : ℕ → ℕ → ℕ) (long : (y : ℕ) → y < h → length (cell_line w layer y) ≡ w)
    (holds : (x y : ℕ) → x < w → y < h → get_or (cell_line w layer y) x 0 ≡ number x y) where
  abbrev text : List ℕ
  text = pages w h layer

  on_page : (x : ℕ) → x < w → x < 16 * page_count w
  on_page x k = omega (arith, pages_cover w)

  owner_inside : (a : Owner) → IsOwner w h a → place_of w h a < length text
  owner_inside (of_cell x y c) (hx, hy, hc) = rw (pages_length w h layer) (column_inside w h x y c (on_page x hx) hy hc)
  owner_inside (of_blank x y c) (lx, hx, hy, hc) = rw (pages_length w h layer) (column_inside w h x y c hx hy hc)
  owner_inside (line_end p y) (hp, hy) = rw (pages_length w h layer) (byte_inside w h 80 y p (omega arith) hy hp)

  owner_back : (a : Owner) → IsOwner w h a → owner_at w h (place_of w h a) ≡ a
  owner_back (of_cell x y c) (hx, hy, hc) = column_back w h x y c (on_page x hx) hy hc ∙ cell_owner w h x y c hx
  owner_back (of_blank x y c) (lx, hx, hy, hc) = column_back w h x y c hx hy hc ∙ blank_owner w h x y c lx
  owner_back (line_end p y) (hp, hy) =
      let q = byte_back w h 80 y p (omega arith) hy hp in
      owner_end w h (index (byte_box w h) (triple 80 y p)) (ap (λ (d : Triple). d.x) q) ∙ rw q

  owner_stands : (a : Owner) → IsOwner w h a → get_or text (place_of w h a) 0 ≡ owner_byte number a
  owner_stands (of_cell x y c) (hx, hy, hc) =
      let k : x < length (cell_line w layer y) = rw (long y hy) hx in
      column_byte_lem w h x y c (on_page x hx) hy hc layer ∙ rw (place_cell (cell_line w layer y) x k, holds x y hx hy)
  owner_stands (of_blank x y c) (lx, hx, hy, hc) =
      let k : length (cell_line w layer y) ≤ x = rw (long y hy) lx in
      column_byte_lem w h x y c hx hy hc layer ∙ rw (place_beyond (cell_line w layer y) x k) (blank_column c hc)
  owner_stands (line_end p y) (hp, hy) = byte_at w h 80 y p (omega arith) hy hp layer ∙ end_byte (cell_line w layer y) p

  module _ (t : ℕ) (k : t < length text) where
    within : t < 81 * h * page_count w
    within = omega (arith, pages_length w h layer)

    -- the place of a byte in its line
    spot_first : (spot w h t).x ≡ t % 81
    unfolding place byte_box
    spot_first = refl

    byte_ends : t % 81 ≡ 80 → get_or text t 0 ≡ 10
    byte_ends e =
        let d : (spot w h t).x ≡ 80 = spot_first ∙ e in
        ap (λ (n : ℕ). get_or text n 0) (sym (end_returned w h t within d)) ∙ owner_stands (line_end (spot w h t).z (spot w h t).y) (byte_z w h t within, byte_y w h t within)

    byte_is_column : t % 81 < 80 → is_column (get_or text t 0) ≡ true
    byte_is_column l =
        let q = byte_column w h t within (λ e. omega (arith, spot_first)) in
        let x : ℕ = 16 * (spot w h t).z + (spot w h t).x / 5 in
        let c : ℕ = (spot w h t).x % 5 in
        let same : get_or text t 0 ≡ get_or (place_columns (cell_line w layer (spot w h t).y) x) c 0 =
        ap (λ (n : ℕ). get_or text n 0) (sym q.1) ∙ column_byte_lem w h x (spot w h t).y c q.0 (byte_y w h t within) (omega arith) layer in
        rw same (place_column (cell_line w layer (spot w h t).y) x c (omega arith))

  -- column by column
  column_step : (x y c : ℕ) → column_at w h x y c ≡ column_at w h x y 0 + c
  unfolding column_at index byte_box
  column_step x y c = omega arith

  five_bytes : (x y : ℕ) → x < w → y < h → take 5 (drop (column_at w h x y 0) text) ≡ cell_columns (number x y)
  five_bytes x y hx hy =
      let a : ℕ = column_at w h x y 0 in
      let last : a + 4 < length text = rw (column_step x y 4) at (owner_inside (of_cell x y 4) (hx, hy, omega arith)) in
      let five : length (take 5 (drop a text)) ≡ 5 = simp (length-take, length-drop) (omega arith) in
      ext_get_or 0 (take 5 (drop a text)) (cell_columns (number x y)) (five ∙ sym (columns_five (number x y)))
      (λ i k.
      let low : i < 5 = omega arith in
      get_or-take 5 (drop a text) i 0 low ∙ get_or-drop a text i 0 ∙ ap (λ (n : ℕ). get_or text n 0) (sym (column_step x y i))
      ∙ owner_stands (of_cell x y i) (hx, hy, low))

  -- Every byte of the pages has its one owner, and every owner its one place.
  pub pages_laid_out : LaidOut w h number text
  pages_laid_out = record {
    exact = pages_length w h layer;
    inside = owner_inside;
    owner = owner_back;
    stands = owner_stands;
    owned = λ t k. byte_owned w h t (within t k);
    returned = λ t k. byte_returned w h t (within t k);
    cell_bytes = five_bytes;
    line_ends = byte_ends;
    characters = byte_is_column;
  }
