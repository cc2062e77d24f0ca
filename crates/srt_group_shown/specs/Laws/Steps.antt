-- What is proved of the definitions in specs/Steps.antt, with what the proofs need.
use Rattle.std.specs.Prelude.{◌≡◌, refl, Bool, ◌&&◌, ℕ, ◌*◌, ◌≤◌, ltb, length, None, Option}
use Rattle.std.proofs.Math.Path.{ap, subst}
use Rattle.std.proofs.Common.{sym, ◌∙◌, arith}
use Rattle.std.proofs.Math.Bool.{true, false, not}
use mathlib.Core.List.{List}
use borrow.Author.Tests.{eqb-true, not-false}
use Rattle.std.proofs.Math.Dec.{eqb}
use Rattle.srt_protocol.specs.Cells.{cell_size, cells_of, max_cells, overwritten}
use Rattle.srt_group_model.specs.Laws.Reason.{if_elim, or_left}
use Rattle.srt_group_model.specs.State.{State}
use Rattle.srt_group_model.specs.Validity.{is_invalid}
use Rattle.srt_group_model.specs.Sending.{Sent}
use Rattle.srt_group_model.specs.Guards.{Answer, no_answer, Put, Step, refuse, accept}
use Rattle.srt_group_model.specs.Calls.{store_unfit, cells_given, breaks_rule}
use Rattle.srt_group_model.specs.Lent.{Lent, Call, stored, delivered_by, written_out, list_rows, with_bytes, step_of}
use Rattle.srt_group_model.specs.Laws.Valid.{valid_of, counted_of, valid_wider}
use Rattle.srt_connection_queue.specs.Rows.{row_size}
use Rattle.srt_connection_members.specs.Laws.Members.{members_length}
use Rattle.srt_group_model.specs.declared.Packet.{Packet}
use Rattle.cell_set.specs.Shows.{Shows}
use Rattle.cell_set.specs.Laws.Shows.{shows_kept}
use Rattle.srt_group_shown.specs.Tables.{Parts, Tables, state_of}
use Rattle.srt_group_shown.specs.Ready.{Ready, storing, Performs}
use Rattle.srt_group_shown.specs.Laws.Ready.{performs_accepted}
use Rattle.srt_group_shown.specs.Steps.{Unbroken, Left, Steps, StepsKeeping}

-- ---- what an unbroken state gives

-- what `find` is given
pub rows_unbroken : {p : Parts} {t : Tables} → Unbroken p t → p.core.counts.members * row_size ≤ length t.members
rows_unbroken {p} {t} unbroken =
    omega (
      arith,
      (counted_of (state_of p t) (valid_of (cells_given (state_of p t)) (state_of p t) unbroken.valid).counts).members,
      members_length p.core.counts.members t.members,
      unbroken.long.members,
    )

module _ {p : Parts} {t : Tables} {store : ℕ} {used : List ℕ} (ready : Ready p t store used) where
  abbrev shown : State
  shown = state_of p t

  -- 6 is not given by a call that is lent no store either: it has the cells of this store, or more
  pub no_rule_broken : breaks_rule shown ≡ false
  unfolding store_unfit cells_given
  no_rule_broken =
      if_elim (λ (cells : ℕ). is_invalid cells shown ≡ false) (eqb shown.making.length 0) _ _
      (λ none_given. valid_wider (cells_of store) max_cells shown (omega arith) ready.valid)
      (λ given. subst (λ (n : ℕ). is_invalid (cells_of n) shown ≡ false) (eqb-true store shown.making.length (this_given given)) ready.valid)
    where
      this_given : eqb shown.making.length 0 ≡ false → eqb store shown.making.length ≡ true
      this_given given =
          not-false (eqb store shown.making.length)
          (subst (λ (b : Bool). (not b && not (eqb store shown.making.length)) ≡ false) given
          (or_left (not (eqb shown.making.length 0) && not (eqb store shown.making.length)) (ltb store cell_size) ready.fits))

  pub unbroken_of : Unbroken p t
  unbroken_of = record { long = ready.long; valid = no_rule_broken }

  pub rows_there : p.core.counts.members * row_size ≤ length t.members
  rows_there = rows_unbroken unbroken_of

-- ---- what a step leaves

-- an answer without a packet
pub nothing_delivered : delivered_by no_answer ≡ None
unfolding delivered_by
nothing_delivered = refl

-- a step that is another
pub left_by : {x : Step} {number : ℕ} {given : Answer} {s : State} (y : Step) → x ≡ y → Left y number given s → Left x number given s
left_by {x} {number} {given} {s} y is left = subst (λ (z : Step). Left z number given s) (sym is) left

pub left_refused : {x : Step} (code : ℕ) (s : State) {s' : State} → x ≡ refuse code s → s ≡ s' → Left x code no_answer s'
left_refused code s is same =
    left_by (refuse code s) is record { code = refl; answer = refl; state = same; put = refl; sends = refl }

pub left_accepted : {x : Step} (s : State) (given : Answer) {s' : State} → x ≡ accept s given → s ≡ s' → Left x 0 given s'
left_accepted s given is same =
    left_by (accept s given) is record { code = refl; answer = refl; state = same; put = refl; sends = refl }

module _ (bytes : Lent) (x : Step) {number : ℕ} {given : Answer} {s : State} (left : Left x number given s)
    (no_packet : delivered_by given ≡ None) where
  -- no byte changes
  pub left_bytes : bytes ≡ (with_bytes bytes x).lent
  unfolding with_bytes stored written_out list_rows overwritten
  left_bytes =
      λ i.
      record {
        store = ap (λ (o : Option Put). stored o bytes.store) (sym left.put) i;
        output = ap (λ (o : Option Packet). written_out o bytes.store bytes.output) (sym no_packet ∙ ap delivered_by (sym left.answer)) i;
        list = ap (λ (sends : List Sent). overwritten 0 (list_rows sends) bytes.list) (sym left.sends) i;
      }

-- ---- a state that is ready

module _ {call : Call} {p : Parts} {t : Tables} {store used : List ℕ} (ready : Ready p t (length store) used) {number : ℕ} {given : Answer}
    {p' : Parts} {t' : Tables} (no_packet : delivered_by given ≡ None) where
  -- the cells that are in use afterwards are shown
  pub performs_steps : (used' : List ℕ) → Steps call p t number given p' t' → Shows used' (state_of p' t')
      → Performs call p t (storing store) number given p' t' (storing store) used'
  performs_steps used' steps shows =
      let x = step_of (length store) 0 0 call (state_of p t) in
      let left = steps.step (length store) 0 0 in
      performs_accepted call p t (storing store) used ready x p' t' (storing store) used' refl (sym left.code) (sym left.answer)
      (sym left.state) (left_bytes (storing store) x left no_packet) refl steps.long
      (subst (Shows used') (sym left.state) shows)

  pub performs_keeping : StepsKeeping call p t number given p' t' → Performs call p t (storing store) number given p' t' (storing store) used
  performs_keeping steps = performs_steps used steps.steps (shows_kept ready.shows steps.keeps)
