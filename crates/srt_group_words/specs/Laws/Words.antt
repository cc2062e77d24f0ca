-- What is proved of the definitions in specs/Words.antt: a promise of the call by value is the promise in words.
use Rattle.std.specs.Prelude.{◌≡◌, Bool, true, ◌||◌, ℕ, zero, suc, ◌-◌, ◌≤◌, ◌<◌, ltb, drop}
use Rattle.std.proofs.Math.Path.{refl}
use Rattle.std.proofs.Common.{sym, ap, subst, ◌∙◌, arith, lt-ltb, le-ltb}
use Rattle.std.proofs.Math.Bool.{false}
use mathlib.Core.List.{List, []}
use Rattle.std.proofs.Math.ListN.{length}
use Rattle.srt_protocol.specs.Cells.{overwritten}
use Rattle.srt_group_model.specs.Laws.Reason.{when_true, when_false, or_yes_right}
use Rattle.srt_group_model.specs.Guards.{Answer, no_answer}
use Rattle.srt_group_model.specs.Lent.{Lent, Call, takes, perform}
use Rattle.srt_group_model.specs.declared.Core.{Core}
use Rattle.srt_group_model.specs.declared.Identity.{Identity}
use Rattle.srt_group_model.specs.declared.Sending.{Sending}
use Rattle.srt_group_tables.specs.declared.history.HistoryRing.{HistoryRing}
use Rattle.srt_group_model.specs.Answers.{values_of}
use Rattle.srt_group_traces.specs.Port.{Promise}
use Rattle.srt_group_traces.specs.Laws.Rows.{only_sends_fill_rows}
use Rattle.srt_group_shown.specs.Tables.{Parts, parts, Tables, state_of}
use Rattle.srt_group_shown.specs.Ready.{Ready, Performs}
use Rattle.srt_group.specs.Made.{parts_of}
use Rattle.srt_group.specs.declared.Group.{Group}
use Rattle.srt_group_refusals.specs.Begins.{are_short}
use Rattle.srt_group_refusals.specs.Promised.{asking, showing, Promised, PromisedRow, row_short, nothing_lent}
use Rattle.srt_group_words.specs.Record.{record_size, identity_of, core_of, sending_of, ring_of, group_of, group_words, with_core}
use Rattle.srt_group_words.specs.Laws.Record.{group_read, group_put, put_length, put_behind}
use Rattle.srt_group_words.specs.Words.{zeros, Says, silent, in_words, sent_words, Words, words, parts_in, state_in, are_few, PromisedWords, Gives, Said, PutSaid, PutBack, ReadyWords, PerformsWords, PerformsGives}

-- ---- how many words an answer has

zeros_length : (n : ℕ) → length (zeros n) ≡ n
unfolding zeros
zeros_length zero = refl
zeros_length (suc n) = ap suc (zeros_length n)

no_words : (size : ℕ) → length (in_words size no_answer 0) ≡ size
unfolding in_words values_of
no_words size =
    let all : size - 0 ≡ size = omega arith in
    ap (λ (n : ℕ). length (zeros n)) all ∙ zeros_length size

pub two_words : length (sent_words no_answer 0) ≡ 2
unfolding sent_words in_words values_of zeros
two_words = refl

module _ (says : Says) (w : List ℕ) (t : Tables) (bytes : Lent) (answer : List ℕ) where
  few_record : length w < record_size → are_few says (words w t bytes answer) ≡ true
  few_record short = ap (λ (b : Bool). b || ltb (length answer) (length (says no_answer 0))) (lt-ltb (length w) record_size short)

  few_answer : length answer < length (says no_answer 0) → are_few says (words w t bytes answer) ≡ true
  few_answer short = or_yes_right (ltb (length w) record_size) _ (lt-ltb (length answer) (length (says no_answer 0)) short)

  not_few : record_size ≤ length w → length (says no_answer 0) ≤ length answer → are_few says (words w t bytes answer) ≡ false
  not_few long room =
      ap (λ (b : Bool). b || ltb (length answer) (length (says no_answer 0))) (le-ltb (length w) record_size long)
      ∙ le-ltb (length answer) (length (says no_answer 0)) room

-- ---- a call that is refused for its own slices

pub few_refused : {call : Call} {says : Says} {other : Bool} {w : Words} → are_few says w ≡ true → PromisedWords call says other w 5 w
unfolding showing
few_refused {call} {says} {other} {w} few =
    record {
      given = no_answer;
      rows = 0;
      holds =
          subst (λ (b : Bool). Promise ((b || other) || are_short w.tables) (asking call w.bytes) (state_in w)
          (showing (parts_in w) w.tables w.bytes 5 no_answer 0)) (sym few) refl;
      said = sym (when_true (are_few says w) w.answer _ few);
      behind = refl;
    }

-- ---- a call that is made

-- the promise of the call by value, which the words show before and after it
abbrev Made : Call → (other : Bool) → Parts → Tables → Lent → Parts → Tables → Lent → (number : ℕ) → Answer → (rows : ℕ) → Type 0
Made call other p t bytes p' t' bytes' number given rows =
    Promise (other || are_short t) (asking call bytes) (state_of p t) (showing p' t' bytes' number given rows)

module _ (call : Call) (says : Says) (other : Bool) (w : List ℕ) (t : Tables) (bytes : Lent) (answer : List ℕ)
    (enough : are_few says (words w t bytes answer) ≡ false) where
  in_words_over : (p p' : Parts) (w' : List ℕ) (t' : Tables) (bytes' : Lent) (answer' : List ℕ) (number code : ℕ) (given : Answer) (rows : ℕ)
      → p ≡ parts_of (group_of w) → p' ≡ parts_of (group_of w') → Made call other p t bytes p' t' bytes' number given rows
      → code ≡ number → answer' ≡ overwritten 0 (says given rows) answer → drop record_size w' ≡ drop record_size w
      → PromisedWords call says other (words w t bytes answer) code (words w' t' bytes' answer')
  in_words_over p p' w' t' bytes' answer' number code given rows from to made same said behind =
      record {
        given = given;
        rows = rows;
        holds =
            subst (λ (b : Bool). Promise ((b || other) || are_short t) (asking call bytes) (state_of (parts_of (group_of w)) t)
            (showing (parts_of (group_of w')) t' bytes' code given rows))
            (sym enough) moved;
        said = said ∙ sym (when_false (are_few says (words w t bytes answer)) answer _ enough);
        behind = behind;
      }
    where
      moved : Made call other (parts_of (group_of w)) t bytes (parts_of (group_of w')) t' bytes' code given rows
      moved =
          subst (λ (q : Parts). Made call other q t bytes (parts_of (group_of w')) t' bytes' code given rows) from
          (subst (λ (q : Parts). Made call other p t bytes q t' bytes' code given rows) to
          (subst (λ (n : ℕ). Made call other p t bytes p' t' bytes' n given rows) (sym same) made))

  module _ {g : Group} (read : g ≡ group_of w) {t' : Tables} {bytes' : Lent} {answer' : List ℕ} {number code : ℕ} (same : code ≡ number)
      (given : Answer) (rows : ℕ) (said : answer' ≡ overwritten 0 (says given rows) answer) where
    -- the record that it leaves is put back
    over_moved : (g' : Group) {w' : List ℕ} → w' ≡ overwritten 0 (group_words g') w
        → Made call other (parts_of g) t bytes (parts_of g') t' bytes' number given rows
        → PromisedWords call says other (words w t bytes answer) code (words w' t' bytes' answer')
    over_moved g' {w'} put made =
        in_words_over (parts_of g) (parts_of g') w' t' bytes' answer' number code given rows (ap parts_of read)
        (ap parts_of (sym (group_put g' w) ∙ ap group_of (sym put))) made same said (ap (drop record_size) put ∙ put_behind g' w)

    -- the record stays as it was
    over_kept : Made call other (parts_of g) t bytes (parts_of g) t' bytes' number given rows
        → PromisedWords call says other (words w t bytes answer) code (words w t' bytes' answer')
    over_kept made =
        in_words_over (parts_of g) (parts_of g) w t' bytes' answer' number code given rows (ap parts_of read) (ap parts_of read) made same said refl

-- ---- as the exported calls cite it

-- 5 for the record, or for the answer's row
pub record_refused : {call : Call} {says : Says} {other : Bool} {w : List ℕ} {t : Tables} {bytes : Lent} {answer : List ℕ} → length w < record_size
    → PromisedWords call says other (words w t bytes answer) 5 (words w t bytes answer)
record_refused {says = says} {w = w} {t = t} {bytes = bytes} {answer = answer} short = few_refused (few_record says w t bytes answer short)

pub record_gives : {call : Call} {says : Says} {other : Bool} {w : List ℕ} {t : Tables} {bytes : Lent} {answer : List ℕ} → length w < record_size
    → Gives call says other (words w t bytes answer) 5 (words w t bytes answer) no_answer
unfolding record_refused few_refused
record_gives short = record { promised = record_refused short; is = refl }

pub answer_refused : {call : Call} {size : ℕ} {other : Bool} {w : List ℕ} {t : Tables} {bytes : Lent} {answer : List ℕ} → length answer < size
    → PromisedWords call (in_words size) other (words w t bytes answer) 5 (words w t bytes answer)
answer_refused {size = size} {w = w} {t = t} {bytes = bytes} {answer = answer} short =
    few_refused (few_answer (in_words size) w t bytes answer (omega (arith, no_words size)))

module _ (call : Call) (w : List ℕ) (t : Tables) (bytes : Lent) (long : record_size ≤ length w) {g : Group} (read : g ≡ group_of w) where
  -- a call that answers by its code alone
  pub silent_moved : (g' : Group) (t' : Tables) (bytes' : Lent) (given : Answer) (rows : ℕ) {w' : List ℕ} {number code : ℕ}
      → Promised call (parts_of g) t bytes (showing (parts_of g') t' bytes' number given rows) → PutBack g' number w code w'
      → PromisedWords call silent false (words w t bytes []) code (words w' t' bytes' [])
  unfolding overwritten
  silent_moved g' t' bytes' given rows promised back =
      over_moved call silent false w t bytes [] (not_few silent w t bytes [] long (omega arith)) read back.same given rows refl g' back.put
      promised.holds

  pub silent_kept : (t' : Tables) (bytes' : Lent) (given : Answer) (rows : ℕ) {number code : ℕ}
      → Promised call (parts_of g) t bytes (showing (parts_of g) t' bytes' number given rows) → code ≡ number
      → PromisedWords call silent false (words w t bytes []) code (words w t' bytes' [])
  unfolding overwritten
  silent_kept t' bytes' given rows promised same =
      over_kept call silent false w t bytes [] (not_few silent w t bytes [] long (omega arith)) read same given rows refl promised.holds

  -- the same of a call that is lent a row of the members' table too
  pub row_moved : (row : List ℕ) (g' : Group) (t' : Tables) (given : Answer) (rows : ℕ) {w' : List ℕ} {number code : ℕ}
      → PromisedRow call (parts_of g) t row (showing (parts_of g') t' nothing_lent number given rows) → PutBack g' number w code w'
      → PromisedWords call silent (row_short row) (words w t nothing_lent []) code (words w' t' nothing_lent [])
  unfolding overwritten
  row_moved row g' t' given rows promised back =
      over_moved call silent (row_short row) w t nothing_lent [] (not_few silent w t nothing_lent [] long (omega arith)) read back.same given rows
      refl g' back.put promised.holds

  -- with the answer that is given
  pub row_gives : (row : List ℕ) (g' : Group) (t' : Tables) (given : Answer) (rows : ℕ) {w' : List ℕ} {number code : ℕ}
      → PromisedRow call (parts_of g) t row (showing (parts_of g') t' nothing_lent number given rows) → PutBack g' number w code w'
      → Gives call silent (row_short row) (words w t nothing_lent []) code (words w' t' nothing_lent []) given
  unfolding row_moved over_moved in_words_over
  row_gives row g' t' given rows promised back = record { promised = row_moved row g' t' given rows promised back; is = refl }

  -- a call that says its answer in words
  module _ (size : ℕ) (answer : List ℕ) (room : size ≤ length answer) where
    pub said_moved : (g' : Group) (t' : Tables) (bytes' : Lent) (given : Answer) {w' answer' : List ℕ} {number code : ℕ}
        → Promised call (parts_of g) t bytes (showing (parts_of g') t' bytes' number given 0)
        → PutSaid g' number (in_words size given 0) w answer code w' answer'
        → PromisedWords call (in_words size) false (words w t bytes answer) code (words w' t' bytes' answer')
    said_moved g' t' bytes' given promised back =
        over_moved call (in_words size) false w t bytes answer
        (not_few (in_words size) w t bytes answer long (omega (arith, no_words size))) read back.same given 0 back.said g' back.put
        promised.holds

    pub said_kept : (t' : Tables) (bytes' : Lent) (given : Answer) {answer' : List ℕ} {number code : ℕ}
        → Promised call (parts_of g) t bytes (showing (parts_of g) t' bytes' number given 0)
        → Said number (in_words size given 0) code answer answer'
        → PromisedWords call (in_words size) false (words w t bytes answer) code (words w t' bytes' answer')
    said_kept t' bytes' given promised said =
        over_kept call (in_words size) false w t bytes answer
        (not_few (in_words size) w t bytes answer long (omega (arith, no_words size))) read said.same given 0 said.said promised.holds

pub silent_enough : (w : List ℕ) (t : Tables) (bytes : Lent) → record_size ≤ length w → are_few silent (words w t bytes []) ≡ false
silent_enough w t bytes long = not_few silent w t bytes [] long (omega arith)

pub sent_enough : (w : List ℕ) (t : Tables) (bytes : Lent) (answer : List ℕ) → record_size ≤ length w → 2 ≤ length answer
    → are_few sent_words (words w t bytes answer) ≡ false
sent_enough w t bytes answer long room = not_few sent_words w t bytes answer long (omega (arith, two_words))

pub sent_refused : {call : Call} {other : Bool} {w : List ℕ} {t : Tables} {bytes : Lent} {answer : List ℕ} → length answer < 2
    → PromisedWords call sent_words other (words w t bytes answer) 5 (words w t bytes answer)
sent_refused {w = w} {t = t} {bytes = bytes} {answer = answer} short =
    few_refused (few_answer sent_words w t bytes answer (omega (arith, two_words)))

pub room_in_words : (w : List ℕ) (t : Tables) (bytes : Lent) (answer : List ℕ) {size : ℕ} → record_size ≤ length w → size ≤ length answer
    → are_few (in_words size) (words w t bytes answer) ≡ false
room_in_words w t bytes answer {size} long room = not_few (in_words size) w t bytes answer long (omega (arith, no_words size))

-- the same with the answer that is given, of a call that leaves the record, the tables and the bytes as they were
pub kept_gives : (call : Call) (says : Says) (other : Bool) (w : List ℕ) (t : Tables) (bytes : Lent) (answer : List ℕ) → record_size ≤ length w
    → length (says no_answer 0) ≤ length answer → {g : Group} → g ≡ group_of w → {answer' : List ℕ} {number code : ℕ} (given : Answer) (rows : ℕ)
    → Promise (other || are_short t) (asking call bytes) (state_of (parts_of g) t) (showing (parts_of g) t bytes number given rows)
    → code ≡ number → answer' ≡ overwritten 0 (says given rows) answer
    → Gives call says other (words w t bytes answer) code (words w t bytes answer') given
unfolding over_kept in_words_over
kept_gives call says other w t bytes answer long room read given rows made same said =
    record {
      promised =
          over_kept call says other w t bytes answer (not_few says w t bytes answer long room) read {t' = t} {bytes' = bytes} same given rows said made;
      is = refl;
    }

pub answer_gives : {call : Call} {says : Says} {other : Bool} {w : List ℕ} {t : Tables} {bytes : Lent} {answer : List ℕ}
    → length answer < length (says no_answer 0) → Gives call says other (words w t bytes answer) 5 (words w t bytes answer) no_answer
unfolding few_refused
answer_gives {says = says} {w = w} {t = t} {bytes = bytes} {answer = answer} short =
    record { promised = few_refused (few_answer says w t bytes answer short); is = refl }

pub in_words_of : (call : Call) (says : Says) (w : List ℕ) (t : Tables) (bytes : Lent) (answer : List ℕ)
    → are_few says (words w t bytes answer) ≡ false
    → (w' : List ℕ) (t' : Tables) (bytes' : Lent) (answer' : List ℕ) (code : ℕ) (given : Answer) (rows : ℕ)
    → Promised call (parts_of (group_of w)) t bytes (showing (parts_of (group_of w')) t' bytes' code given rows)
    → answer' ≡ overwritten 0 (says given rows) answer → drop record_size w' ≡ drop record_size w
    → PromisedWords call says false (words w t bytes answer) code (words w' t' bytes' answer')
in_words_of call says w t bytes answer enough w' t' bytes' answer' code given rows promised said behind =
    in_words_over call says false w t bytes answer enough (parts_of (group_of w)) (parts_of (group_of w')) w' t' bytes' answer' code code given rows
    refl refl promised.holds refl said behind

-- ---- a form for a valid state

-- the parts read one by one are those of the group that the words show
pub parts_read_each : (w : List ℕ) {identity : Identity} {core : Core} {sending : Sending} {ring : HistoryRing} → identity ≡ identity_of w
    → core ≡ core_of w → sending ≡ sending_of w → ring ≡ ring_of w → parts identity core sending ring ≡ parts_of (group_of w)
parts_read_each w one two three four = ap parts_of (group_read w one two three four)

module _ (w : List ℕ) {g : Group} (read : g ≡ group_of w) where
  pub parts_read : parts_of g ≡ parts_of (group_of w)
  parts_read = ap parts_of read

  -- what a form requires
  pub group_ready : {t : Tables} {store : ℕ} {used : List ℕ} → ReadyWords w t store used → Ready (parts_of g) t store used
  group_ready {t} {store} {used} ready = subst (λ (p : Parts). Ready p t store used) (sym parts_read) ready.ready

  module _ (call : Call) (t : Tables) (bytes : Lent) (long : record_size ≤ length w) (t' : Tables) (bytes' : Lent) (used' : List ℕ) where
    -- the words show what the form leaves
    performs_over : (says : Says) (answer : List ℕ) (p' : Parts) (w' answer' : List ℕ) (number code : ℕ) (given : Answer) (rows : ℕ)
        → length w' ≡ length w → p' ≡ parts_of (group_of w')
        → Performs call (parts_of g) t bytes number given p' t' bytes' used' → code ≡ number
        → rows ≡ (perform call bytes (state_of (parts_of g) t)).rows → answer' ≡ overwritten 0 (says given rows) answer
        → drop record_size w' ≡ drop record_size w
        → PerformsWords call says (words w t bytes answer) code (words w' t' bytes' answer') used'
    performs_over says answer p' w' answer' number code given rows size to done same filled said behind =
        record {
          given = given;
          rows = rows;
          performs = moved;
          filled = filled ∙ ap (λ (p : Parts). (perform call bytes (state_of p t)).rows) parts_read;
          said = said;
          behind = behind;
          ready = record { long = omega (arith, size); ready = moved.ready };
        }
      where
        moved : Performs call (parts_of (group_of w)) t bytes code given (parts_of (group_of w')) t' bytes' used'
        moved =
            subst (λ (p : Parts). Performs call p t bytes code given (parts_of (group_of w')) t' bytes' used') parts_read
            (subst (λ (p : Parts). Performs call (parts_of g) t bytes code given p t' bytes' used') to
            (subst (λ (n : ℕ). Performs call (parts_of g) t bytes n given p' t' bytes' used') (sym same) done))

    abbrev no_rows : (takes call).list ≡ false → 0 ≡ (perform call bytes (state_of (parts_of g) t)).rows
    no_rows none = sym (only_sends_fill_rows call bytes (state_of (parts_of g) t) none)

    -- the record stays as it was
    pub performs_kept : (given : Answer) {number code : ℕ} → (takes call).list ≡ false
        → Performs call (parts_of g) t bytes number given (parts_of g) t' bytes' used' → code ≡ number
        → PerformsWords call silent (words w t bytes []) code (words w t' bytes' []) used'
    unfolding overwritten
    performs_kept given {number} {code} none done same =
        performs_over silent [] (parts_of g) w [] number code given 0 refl parts_read done same (no_rows none) refl refl

    -- the core that it leaves is put back
    shown_core : (core' : Core) (w' : List ℕ) → w' ≡ overwritten 0 (group_words (with_core core' (group_of w))) w
        → parts g.identity core' g.sending g.ring ≡ parts_of (group_of w')
    shown_core core' w' put =
        ap (λ (x : Group). parts_of (with_core core' x)) read
        ∙ ap parts_of (sym (group_put (with_core core' (group_of w)) w) ∙ ap group_of (sym put))

    pub performs_silent : (core' : Core) (given : Answer) {w' : List ℕ} {number code : ℕ} → (takes call).list ≡ false
        → Performs call (parts_of g) t bytes number given (parts g.identity core' g.sending g.ring) t' bytes' used'
        → PutBack (with_core core' (group_of w)) number w code w'
        → PerformsWords call silent (words w t bytes []) code (words w' t' bytes' []) used'
    unfolding overwritten
    performs_silent core' given {w'} {number} {code} none done back =
        performs_over silent [] (parts g.identity core' g.sending g.ring) w' [] number code given 0 (ap length back.put ∙ put_length _ w long)
        (shown_core core' w' back.put) done back.same (no_rows none) refl (ap (drop record_size) back.put ∙ put_behind _ w)

    pub silent_gives : (core' : Core) (given : Answer) {w' : List ℕ} {number code : ℕ} → (takes call).list ≡ false
        → Performs call (parts_of g) t bytes number given (parts g.identity core' g.sending g.ring) t' bytes' used'
        → PutBack (with_core core' (group_of w)) number w code w'
        → PerformsGives call silent (words w t bytes []) code (words w' t' bytes' []) used' given
    unfolding performs_silent performs_over
    silent_gives core' given none done back = record { performs = performs_silent core' given none done back; is = refl }

    pub performs_said : (size : ℕ) (answer : List ℕ) (core' : Core) (given : Answer) {w' answer' : List ℕ} {number code : ℕ}
        → (takes call).list ≡ false
        → Performs call (parts_of g) t bytes number given (parts g.identity core' g.sending g.ring) t' bytes' used'
        → PutSaid (with_core core' (group_of w)) number (in_words size given 0) w answer code w' answer'
        → PerformsWords call (in_words size) (words w t bytes answer) code (words w' t' bytes' answer') used'
    performs_said size answer core' given {w'} {answer'} {number} {code} none done back =
        performs_over (in_words size) answer (parts g.identity core' g.sending g.ring) w' answer' number code given 0
        (ap length back.put ∙ put_length _ w long) (shown_core core' w' back.put) done back.same (no_rows none) back.said
        (ap (drop record_size) back.put ∙ put_behind _ w)

    -- the group that it leaves is put back
    pub performs_sent : (says : Says) (answer : List ℕ) (g' : Group) (given : Answer) (rows : ℕ)
        {w' answer' : List ℕ} {number code : ℕ} → rows ≡ (perform call bytes (state_of (parts_of g) t)).rows
        → Performs call (parts_of g) t bytes number given (parts_of g') t' bytes' used'
        → PutSaid g' number (says given rows) w answer code w' answer'
        → PerformsWords call says (words w t bytes answer) code (words w' t' bytes' answer') used'
    performs_sent says answer g' given rows {w'} {answer'} {number} {code} filled done back =
        performs_over says answer (parts_of g') w' answer' number code given rows (ap length back.put ∙ put_length _ w long)
        (ap parts_of (sym (group_put g' w) ∙ ap group_of (sym back.put)))
        done back.same filled back.said (ap (drop record_size) back.put ∙ put_behind _ w)

    pub performs_ready : (size : ℕ) (answer : List ℕ) (g' : Group) (given : Answer)
        {w' answer' : List ℕ} {number code : ℕ} → (takes call).list ≡ false
        → Performs call (parts_of g) t bytes number given (parts_of g') t' bytes' used'
        → PutSaid g' number (in_words size given 0) w answer code w' answer'
        → PerformsWords call (in_words size) (words w t bytes answer) code (words w' t' bytes' answer') used'
    performs_ready size answer g' given none done back =
        performs_sent (in_words size) answer g' given 0 (no_rows none) done back
