-- Laws of Cells.antt: what was put is what is copied, and a put into one cell changes nothing in another.
use Rattle.srt_protocol.specs.Errors.{Outcome}
use Rattle.std.specs.Prelude.{◌≡◌, ℕ, ◌+◌, ◌-◌, ◌*◌, ◌<◌, ◌≤◌, min, ◌⊎◌, List, ◌++◌, length, get_or, take, drop, ◌≢◌, slice_index_or, refl, Err, Ok}
use Rattle.std.proofs.Math.Path.{sym, ap}
use Rattle.std.proofs.Common.{◌∙◌, append_assoc, inl, inr, arith, length-append, length-take, length-drop, drop_at, drop-drop, ext_get_or}
use Rattle.std.proofs.Math.Decide.{dec_lt, dec_le}
use borrow.Author.Tests.{lt-ltb, le-ltb, le-leb, lt-leb}
use Rattle.std.proofs.Math.ListN.{get_or-append}
use Rattle.std.proofs.Math.Seq.{length-take-le, take-append_seam, get_or-take, get_or-drop, get_or-append-add}
use Rattle.srt_protocol.specs.declared.error.Error.{Error}
use Rattle.srt_protocol.specs.declared.error.Error.TheVariants.{PayloadTooLong, InsufficientBuffer, InvalidState}
use Rattle.srt_protocol.specs.Cells.{output_size, cell_size, head_size, cells_of, overwritten, cell_bytes, cell_outcome, copy_outcome, Put, Copied}

-- ---- laws of `overwritten`, for elements of any type

-- how a list stands when a part of it was lent, of n elements from `at` on, and came back as `part`
pub part_back : {A : Type 0} (at n : ℕ) (part whole : List A) → length part ≡ n
    → take at whole ++ (part ++ drop (at + n - at) (drop at whole)) ≡ overwritten at part whole
unfolding overwritten
part_back {A} at n part whole long =
    let end : at + (at + n - at) ≡ at + length part = omega arith in
    ap (λ (rest : List A). take at whole ++ (part ++ rest)) (drop-drop (at + n - at) at whole ∙ ap (λ (k : ℕ). drop k whole) end)

module _ {A : Type 0} (at : ℕ) (part whole : List A) (fits : at + length part ≤ length whole) where
  abbrev front : List A
  front = take at whole ++ part

  front_length : length front ≡ at + length part
  front_length = length-append (take at whole) part ∙ ap (λ (n : ℕ). n + length part) (length-take-le at whole (omega arith))

  by_front : overwritten at part whole ≡ front ++ drop (at + length part) whole
  unfolding overwritten
  by_front = sym (append_assoc (take at whole) part (drop (at + length part) whole))

  pub overwritten_length : length (overwritten at part whole) ≡ length whole
  overwritten_length =
      ap length by_front ∙ length-append front (drop (at + length part) whole)
      ∙ omega (arith, front_length, length-drop (at + length part) whole)

  -- what was written is what is read there
  pub overwritten_there : take (length part) (drop at (overwritten at part whole)) ≡ part
  unfolding overwritten
  overwritten_there =
      ap (take (length part)) (drop_at (take at whole) (part ++ drop (at + length part) whole) at (length-take-le at whole (omega arith)))
      ∙ take-append_seam part (drop (at + length part) whole)

  -- an element elsewhere is as it was
  pub overwritten_elsewhere : (i : ℕ) (d : A) → (i < at) ⊎ (at + length part ≤ i) → slice_index_or (overwritten at part whole) i d ≡ slice_index_or whole i d
  unfolding overwritten
  overwritten_elsewhere i d (inl ahead) =
      get_or-append (take at whole) (part ++ drop (at + length part) whole) d i
      (omega (arith, length-take-le at whole (omega arith)))
      ∙ get_or-take at whole i d ahead
  overwritten_elsewhere i d (inr behind) =
      ap (λ (l : List A). get_or l i d) by_front
      ∙ ap (λ (n : ℕ). get_or (front ++ drop (at + length part) whole) n d) (omega (arith, front_length))
      ∙ get_or-append-add front (drop (at + length part) whole) (i - (at + length part)) d
      ∙ get_or-drop (at + length part) whole (i - (at + length part)) d
      ∙ ap (λ (n : ℕ). get_or whole n d) (omega arith)

  -- a run of elements elsewhere is as it was (d is any element)
  pub overwritten_run : (d : A) (start count : ℕ) → (start + count ≤ at) ⊎ (at + length part ≤ start)
      → take count (drop start (overwritten at part whole)) ≡ take count (drop start whole)
  overwritten_run d start count apart = ext_get_or d (run (overwritten at part whole)) (run whole) same_length same
    where
      run : List A → List A
      run l = take count (drop start l)

      run_length : (l : List A) → length (run l) ≡ min count (length l - start)
      run_length l = length-take count (drop start l) ∙ ap (min count) (length-drop start l)

      same_length : length (run (overwritten at part whole)) ≡ length (run whole)
      same_length =
          run_length (overwritten at part whole) ∙ ap (λ (n : ℕ). min count (n - start)) overwritten_length ∙ sym (run_length whole)

      run_at : (l : List A) (i : ℕ) → i < count → slice_index_or (run l) i d ≡ slice_index_or l (start + i) d
      run_at l i below = get_or-take count (drop start l) i d below ∙ get_or-drop start l i d

      outside : (i : ℕ) → i < count → (start + count ≤ at) ⊎ (at + length part ≤ start) → (start + i < at) ⊎ (at + length part ≤ start + i)
      outside i below (inl ahead) = inl (omega arith)
      outside i below (inr behind) = inr (omega arith)

      same : (i : ℕ) → i < length (run (overwritten at part whole)) → slice_index_or (run (overwritten at part whole)) i d ≡ slice_index_or (run whole) i d
      same i below =
          let within : i < count = omega (arith, run_length (overwritten at part whole)) in
          run_at (overwritten at part whole) i within
          ∙ overwritten_elsewhere (start + i) d (outside i within apart) ∙ sym (run_at whole i within)

-- ---- the outcomes of using a cell, by what led to each

module _ (store_length cell size : ℕ) where
  pub cell_short : store_length < cell_size → cell_outcome store_length cell size ≡ Err InsufficientBuffer
  unfolding cell_outcome
  cell_short short = simp (lt-ltb store_length cell_size short)

  module _ (one : cell_size ≤ store_length) where
    pub cell_beyond : cells_of store_length ≤ cell → cell_outcome store_length cell size ≡ Err InvalidState
    unfolding cell_outcome
    cell_beyond beyond = simp (le-ltb store_length cell_size one, le-leb (cells_of store_length) cell beyond)

    pub cell_too_small : cell < cells_of store_length → cell_size < size → cell_outcome store_length cell size ≡ Err PayloadTooLong
    unfolding cell_outcome
    cell_too_small there long =
        simp (le-ltb store_length cell_size one, lt-leb (cells_of store_length) cell there, lt-ltb cell_size size long)

    pub cell_accepted : cell < cells_of store_length → size ≤ cell_size → cell_outcome store_length cell size ≡ Ok tt
    unfolding cell_outcome
    cell_accepted there room =
        simp (le-ltb store_length cell_size one, lt-leb (cells_of store_length) cell there, le-ltb cell_size size room)

  -- a use that was tested and accepted stays within the store
  pub cell_within : (tested : Outcome) → tested ≡ cell_outcome store_length cell size → tested ≡ Ok tt
      → (cell * cell_size + size ≤ store_length) × (size ≤ cell_size)
  cell_within tested is accepted = go (dec_lt store_length cell_size) (dec_le (cells_of store_length) cell) (dec_lt cell_size size)
    where
      never : (e : Error) → cell_outcome store_length cell size ≢ Err e
      never e refused = let different : ◌≡◌ {A = ℕ} 0 1 = cc in omega arith

      go : Dec (store_length < cell_size) → Dec (cells_of store_length ≤ cell) → Dec (cell_size < size)
          → (cell * cell_size + size ≤ store_length) × (size ≤ cell_size)
      go (yes short) b l = absurd (never InsufficientBuffer (cell_short short))
      go (no short) (yes beyond) l = absurd (never InvalidState (cell_beyond (omega arith) beyond))
      go (no short) (no beyond) (yes long) = absurd (never PayloadTooLong (cell_too_small (omega arith) (omega arith) long))
      go (no short) (no beyond) (no long) = (omega arith, omega arith)

  module _ (output_length : ℕ) where
    -- Cited by no proof: it stands for who reads `copy_outcome`.
    pub output_short : output_length < output_size → copy_outcome store_length cell size output_length ≡ Err InsufficientBuffer
    output_short short = simp (lt-ltb output_length output_size short)

    pub output_enough : output_size ≤ output_length
        → copy_outcome store_length cell size output_length ≡ cell_outcome store_length cell size
    output_enough enough = simp (le-ltb output_length output_size enough)

-- ---- two cells

-- what was put is what is copied
pub put_then_copied : (store after output output_after payload : List ℕ) (cell : ℕ) → Put store cell payload (Ok tt) after
    → Copied after cell (length payload) output (Ok tt) output_after → output_after ≡ overwritten head_size payload output
put_then_copied store after output output_after payload cell put copy =
    copy.copied
    ∙ ap (λ (bytes : List ℕ). overwritten head_size bytes output)
    (ap (cell_bytes cell (length payload)) put.stored ∙ overwritten_there (cell * cell_size) payload store within.0)
  where
    within : (cell * cell_size + length payload ≤ length store) × (length payload ≤ cell_size)
    within = cell_within (length store) cell (length payload) (Ok tt) put.outcome refl

-- a put into one cell, accepted or refused, changes nothing in another
pub put_elsewhere : (store after payload : List ℕ) (answer : Outcome) (cell other size : ℕ) → Put store cell payload answer after
    → (other < cell) ⊎ (cell < other) → size ≤ cell_size → cell_bytes other size after ≡ cell_bytes other size store
put_elsewhere store after payload (Err e) cell other size put different room = ap (cell_bytes other size) put.stored
put_elsewhere store after payload (Ok tt) cell other size put different room =
    ap (cell_bytes other size) put.stored
    ∙ overwritten_run (cell * cell_size) payload store within.0 0 (other * cell_size) size (apart different)
  where
    within : (cell * cell_size + length payload ≤ length store) × (length payload ≤ cell_size)
    within = cell_within (length store) cell (length payload) (Ok tt) put.outcome refl

    apart : (other < cell) ⊎ (cell < other)
        → (other * cell_size + size ≤ cell * cell_size) ⊎ (cell * cell_size + length payload ≤ other * cell_size)
    apart (inl lower) = inl (omega arith)
    apart (inr higher) = inr (omega (arith, within.1))
