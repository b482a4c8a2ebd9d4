-- Where each byte of a printed layer stands: "exact widths and the place of each cell are to be shown" (document 02, item 2). The layer has h lines of w cells.
-- Assumes nothing.
use Rattle.std.specs.Prelude.{◌≡◌, Bool, true, cond, ◌||◌, List, ℕ, ◌+◌, ◌*◌, ◌/◌, ◌%◌, ◌≤◌, ◌<◌, eqb, ltb, length, get_or, take, drop}
use Rattle.decimals.specs.Decimals.{digit}
use Rattle.cells.specs.Box.{triple, index, place}
use Rattle.cells.specs.declared.Triple.{Triple}
use Rattle.cells.specs.Grid.{sides}
use Rattle.layer_printer.specs.Printed.{cell_columns, page_count}

-- The bytes are the places of a box: 81 to a line, h lines to a page, and the pages. Bytes of a line run fastest, then lines, then pages.
unfoldable pub byte_box : ℕ → ℕ → Triple
byte_box w h = triple 81 h (page_count w)

-- What a byte belongs to: column c of the cell at x and y, column c of the place at x and y beyond the grid, or the end of line y on page p.
pub data Owner : Type 0 where
  of_cell of_blank : ℕ → ℕ → ℕ → Owner
  line_end : ℕ → ℕ → Owner

-- The owners that there are: five columns of each cell and of each place beyond the grid, up to the right edge of the last page, and the line ends.
abbrev pub IsOwner : ℕ → ℕ → Owner → Type 0
IsOwner w h (of_cell x y c) = (x < w) × (y < h) × (c < 5)
IsOwner w h (of_blank x y c) = (w ≤ x) × (x < 16 * page_count w) × (y < h) × (c < 5)
IsOwner w h (line_end p y) = (p < page_count w) × (y < h)

-- Where column c of place x on line y stands: on page x / 16, at place x % 16 of the line.
unfoldable pub column_at : ℕ → ℕ → ℕ → ℕ → ℕ → ℕ
column_at w h x y c = index (byte_box w h) (triple (5 * (x % 16) + c) y (x / 16))

-- Where the byte of an owner stands.
abbrev pub place_of : ℕ → ℕ → Owner → ℕ
place_of w h (of_cell x y c) = column_at w h x y c
place_of w h (of_blank x y c) = column_at w h x y c
place_of w h (line_end p y) = index (byte_box w h) (triple 80 y p)

-- The owner of a column, and that of byte t.
unfoldable pub column_owner : ℕ → ℕ → ℕ → ℕ → Owner
column_owner w x y c = cond (ltb x w) (of_cell x y c) (of_blank x y c)

unfoldable pub owner_at : ℕ → ℕ → ℕ → Owner
owner_at w h t =
    let b = place (byte_box w h) t in
    cond (eqb b.x 80) (line_end b.z b.y) (column_owner w (16 * b.z + b.x / 5) b.y (b.x % 5))

-- The byte of an owner, where number x y is what the cell at x and y holds.
abbrev pub owner_byte : (ℕ → ℕ → ℕ) → Owner → ℕ
owner_byte number (of_cell x y c) = get_or (cell_columns (number x y)) c 0
owner_byte number (of_blank x y c) = 32
owner_byte number (line_end p y) = 10

-- What a column can have: a space, a hash sign, a dot or a digit.
unfoldable pub is_column : ℕ → Bool
is_column b = eqb b 32 || (eqb b 35 || (eqb b 46 || digit b))

-- What is shown of a printed layer of w × h cells. Each byte has exactly one owner: `owner_at` and `place_of` undo each other.
pub record LaidOut (w h : ℕ) (number : ℕ → ℕ → ℕ) (text : List ℕ) : Type 0 where
  -- 81 bytes to a line, h lines to a page
  pub exact : length text ≡ 81 * h * page_count w
  -- each owner has its place, where its byte stands
  pub inside : (a : Owner) → IsOwner w h a → place_of w h a < length text
  pub owner : (a : Owner) → IsOwner w h a → owner_at w h (place_of w h a) ≡ a
  pub stands : (a : Owner) → IsOwner w h a → get_or text (place_of w h a) 0 ≡ owner_byte number a
  -- each byte has an owner, and stands at its place
  pub owned : (t : ℕ) → t < length text → IsOwner w h (owner_at w h t)
  pub returned : (t : ℕ) → t < length text → place_of w h (owner_at w h t) ≡ t
  -- the five bytes of a cell
  pub cell_bytes : (x y : ℕ) → x < w → y < h → take 5 (drop (column_at w h x y 0) text) ≡ cell_columns (number x y)
  -- "every line is 80 characters and a line end, byte 10"
  pub line_ends : (t : ℕ) → t < length text → t % 81 ≡ 80 → get_or text t 0 ≡ 10
  pub characters : (t : ℕ) → t < length text → t % 81 < 80 → is_column (get_or text t 0) ≡ true

-- What the cells of layer z of a map hold.
abbrev pub layer_number : Triple → ℕ → List ℕ → ℕ → ℕ → ℕ
layer_number e z m x y = get_or m (index (sides e) (triple x y z)) 0
