-- `listing::reading::read_columns` meets its contract: the columns that are left decide whether all are numbers, and their
-- values behind those that are stored are the values of all.
use Prim.Native.Nat.{ℕ, ◌-◌, ◌*◌, ◌≤◌}
use native.Mathlib.Omega.{arith}
use mathlib.Core.Bool.{true}
use mathlib.Core.Path.{◌≡◌, sym, ◌∙◌}
use mathlib.Core.List.{List, [], ◌++◌}
use lib.ListN.{length, take}
use lib.Seq.{take_all}
use Rattle.listing.specs.Line.{begins_with_columns}
use Rattle.listing.proofs.LineLaws.{columns_done, values_done}
use Rattle.std.proofs.lemmas.List.{append-nil}
use Rattle.listing.proofs.reading.read_columns.Goals as goal

-- with every number stored and no column left, the numbers are the values
all_read :
    (numbers rest all : List ℕ) (index : ℕ) → length numbers ≤ index → rest ≡ [] → take index numbers ++ rest ≡ all → numbers ≡ all
all_read numbers rest all index h none e =
    sym (append-nil numbers) ∙ (rw (take_all index numbers h, none) at e)

pub returns : goal.returns
returns c =
    let a = c.args in
    let l = c.loop-number in
    let bytes = a.bytes.now in
    let rest = l.rest.now in
    let count = length a.numbers.now in
    let all : l.number-index ≡ count = omega arith in
    let well : begins_with_columns count a.width bytes ≡ true =
    sym l.invariant.1 ∙ columns_done count a.width rest l.number-index (omega arith) in
    let end : length bytes - length rest ≡ count * a.width = rw (← all) (omega (arith, l.invariant.0)) in
    record {
      end = rw (well, end);
      put = λ t. all_read l.numbers _ _ l.number-index (omega arith) (values_done count a.width rest l.number-index (omega arith)) l.invariant.2;
    }
