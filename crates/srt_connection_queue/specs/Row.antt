-- A row of a list of words, w words to a row, and what is known of it where a row is lent and comes back: the row that was put
-- is read there, and every other row is as it was.
use Rattle.std.specs.Prelude.{List, ℕ, ◌+◌, ◌*◌, ◌-◌}
use borrow.Rule.Slice.PartMut.{put_mid}

-- the list with r in the place of row i, as it is when the part that was lent comes back
abbrev pub put_row : ℕ → List ℕ → ℕ → List ℕ → List ℕ
put_row w l i r = put_mid (i * w) (i * w + w - i * w) l r
