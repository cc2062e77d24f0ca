-- Laws of refusals: after 1 to 6, 20, 21 and 30 to 32 everything is as it was, and no refusal at all writes the output or the
-- store. Document 01, "Codes from the input" and "No code writes to the output".
use Rattle.std.specs.Prelude.{◌≡◌, refl, Bool, true, false, not, List, [], ◌∷◌, ℕ, eqb, length, None, Option}
use Rattle.std.proofs.Common.{sym, ap, subst, ◌∙◌, eqb-true}
use Rattle.std.proofs.lemmas.Bool.{not-true}
use Rattle.srt_protocol.specs.Cells.{overwritten}
use Rattle.srt_group_model.specs.Tools.{if_true◌then◌else◌, any, all, All}
use Rattle.srt_group_model.specs.Laws.Reason.{if_elim, when_true, when_false, if_some_elim, not_both, and_left, and_right, or_cases}
use Rattle.srt_group_model.specs.State.{State, Member, is_backup}
use Rattle.srt_group_model.specs.Run.{Run}
use Rattle.srt_group_model.specs.Sending.{Flow, ◌and_then◌, send_broadcast}
use Rattle.srt_group_model.specs.Backup.{replay_on, replay_flight, align_carrier, take_over_backup_flight, send_own, send_after_promotion, send_at_place, send_backup}
use Rattle.srt_group_model.specs.Cells.{is_among}
use Rattle.srt_group_model.specs.Codes.{broadcast_codes, backup_codes}
use Rattle.srt_group_model.specs.Guards.{Answer, no_answer, Put, Step, refuse, accept, Check, guard}
use Rattle.srt_group_model.specs.Calls.{add_body, add_member, mark_member_broken, remove_body, remove_member_connection, refresh_member_states, disconnect, event_poll_body, poll_event_call, data_poll_body, poll_data_call, left_by_send, send_flow, send_body, send, can_send_body, can_send_call, can_send_with_pacing_body, can_send_with_pacing_call, read_leg, queue_data_body, queue_data, queue_event}
use Rattle.srt_group_model.specs.declared.Leg.{Leg}
use Rattle.srt_group_model.specs.declared.Entry.{Entry}
use Rattle.srt_group_model.specs.Lent.{Lent, Result, Call, call_add_member, call_mark_member_broken, call_remove_member_connection, call_refresh_member_states, call_disconnect, call_poll_event, call_poll_data_bounded, call_send, call_can_send, call_can_send_with_pacing, Look, look_at, call_look, call_read_leg, call_queue_data, call_queue_event, stored, delivered_by, written_out, list_rows, with_bytes, step_of, perform}

-- the codes after which nothing has changed
unfoldable pub changes_nothing : ℕ → Bool
changes_nothing code =
    any (eqb code) (1 ∷ 2 ∷ 3 ∷ 4 ∷ 5 ∷ 6 ∷ 20 ∷ 21 ∷ 30 ∷ 31 ∷ 32 ∷ [])

-- how a call ends: refused with nothing changed; or accepted; or with another code, no answer and no payload put
pub data Ends (s : State) (step : Step) : Type 0 where
  untouched : (code : ℕ) → step ≡ refuse code s → Ends s step
  accepted : step.code ≡ 0 → Ends s step
  midway : changes_nothing step.code ≡ false → step.answer ≡ no_answer → step.put ≡ None → Ends s step

-- One lemma through all guards: what holds of every refusal and of the body holds of the call.
pub guard_elim : (P : Step → Type 0) (cs : List Check) (s : State) (body : Step) → ((code : ℕ) → P (refuse code s)) → P body → P (guard cs s body)
unfolding guard
guard_elim P [] s body h k = k
guard_elim P (c ∷ cs) s body h k = if_elim P c.fails _ _ (λ e. h c.code) (λ e. guard_elim P cs s body h k)

-- the body is only reached where every test is false
pub guard_passed : (P : Step → Type 0) (cs : List Check) (s : State) (body : Step) → ((code : ℕ) → P (refuse code s))
    → (All (λ (c : Check). c.fails ≡ false) cs → P body) → P (guard cs s body)
unfolding guard
guard_passed P [] s body h k = k tt
guard_passed P (c ∷ cs) s body h k =
    if_elim P c.fails _ _ (λ e. h c.code) (λ e. guard_passed P cs s body h (λ g. k (e, g)))

-- a check that fails refuses; one that does not leaves it to those behind it
pub guard_stops : (c : Check) (cs : List Check) (s : State) (body : Step) → c.fails ≡ true → guard (c ∷ cs) s body ≡ refuse c.code s
unfolding guard if_true◌then◌else◌
guard_stops c cs s body fails = rw fails

pub guard_goes_on : (c : Check) (cs : List Check) (s : State) (body : Step) → c.fails ≡ false → guard (c ∷ cs) s body ≡ guard cs s body
unfolding guard if_true◌then◌else◌
guard_goes_on c cs s body passes = rw passes

-- ---- looks

-- of what a look leaves
pub look_elim : (P : Step → Type 0) (look : Look) (s : State) → ((code : ℕ) → P (refuse code s))
    → ((answer : Answer) → delivered_by answer ≡ None → P (accept s answer)) → P (look_at look s)
unfolding look_at delivered_by
look_elim P look s h k = guard_elim P _ s _ h (k _ refl)

pub record OnlyLooked (s : State) (step : Step) : Type 0 where
  pub state : step.state ≡ s
  pub put : step.put ≡ None
  pub sends : step.sends ≡ []
  pub log : step.log ≡ []
  pub delivered : delivered_by step.answer ≡ None

-- A look leaves the state as it is, puts, sends, marks and delivers nothing, refused or accepted.
pub look_changes_nothing : (look : Look) (s : State) → OnlyLooked s (look_at look s)
unfolding delivered_by
look_changes_nothing look s =
    look_elim (OnlyLooked s) look s
    (λ code. record { state = refl; put = refl; sends = refl; log = refl; delivered = refl })
    (λ answer none_given. record { state = refl; put = refl; sends = refl; log = refl; delivered = none_given })

guard_ends : (cs : List Check) (s : State) (body : Step) → Ends s body → Ends s (guard cs s body)
guard_ends cs s body = guard_elim (Ends s) cs s body (λ code. untouched code refl)

-- ---- the codes that a send ends with midway

-- what is true of each of some numbers is true of one that is among them
pub among_passes : (test : ℕ → Bool) (ns : List ℕ) → all test ns ≡ true → (n : ℕ) → is_among n ns ≡ true → test n ≡ true
unfolding any all
among_passes test [] h n e = not_both e refl
among_passes test (k ∷ ks) h n e =
    or_cases (eqb k n) (is_among n ks) e (λ g. sym (ap test (eqb-true k n g)) ∙ and_left (test k) _ h)
    (λ g. among_passes test ks (and_right (test k) _ h) n g)

-- a send under way, or one that has ended with one of these codes
abbrev pub Gives : List ℕ → Flow → Type 0
Gives codes f = is_among f.code (0 ∷ codes) ≡ true

abbrev pub Midway : Flow → Type 0
Midway = Gives backup_codes

replay_on_ends : (time i : ℕ) (m : Member) (l : Leg) (s : State) → Midway (replay_on time i m l s)
unfolding replay_on any
replay_on_ends time i m l s =
    if_elim Midway _ _ _ (λ e. refl)
    (λ e. if_elim (λ (n : ℕ). is_among n (0 ∷ backup_codes) ≡ true) _ 0 28 (λ h. refl) (λ h. refl))

replay_flight_ends : (time i : ℕ) (m : Member) (e : Entry) (s : State) → Midway (replay_flight time i m e s)
unfolding replay_flight any
replay_flight_ends time i m e s =
    if_elim Midway _ _ _ (λ h. refl)
    (λ h.
    if_elim Midway _ _ _ (λ k. replay_on_ends time i m m.leg s)
    (λ k. if_some_elim Midway _ _ _ (λ l g. replay_on_ends time i m l s) (λ g. refl)))

align_carrier_ends : (i : ℕ) (s : State) → Midway (align_carrier i s)
unfolding align_carrier any
align_carrier_ends i s =
    if_elim Midway _ _ _ (λ h. if_some_elim Midway _ _ _ (λ ms g. refl) (λ g. refl)) (λ h. refl)

take_over_ends : (time i : ℕ) (s : State) → Midway (take_over_backup_flight time i s)
unfolding take_over_backup_flight any
take_over_ends time i s =
    if_some_elim Midway _ _ _
    (λ m g.
    if_elim Midway _ _ _
    (λ h. if_some_elim Midway _ _ _ (λ e k. replay_flight_ends time i m e _) (λ k. align_carrier_ends i _))
    (λ h. align_carrier_ends i s))
    (λ g. refl)

and_then_ends : (x : Flow) (f : State → Flow) → Midway x → ((s : State) → Midway (f s)) → Midway (x and_then f)
unfolding ◌and_then◌
and_then_ends x f h k = if_elim Midway _ _ _ (λ e. k x.state) (λ e. h)

send_own_ends : (time size cell sequence i : ℕ) (failed : Member → State → Flow) (s : State)
    → ((m : Member) (t : State) → Midway (failed m t)) → Midway (send_own time size cell sequence i failed s)
unfolding send_own any
send_own_ends time size cell sequence i failed s h =
    if_some_elim Midway _ _ _ (λ m g. if_some_elim Midway _ _ _ (λ l k. refl) (λ k. h m s)) (λ g. refl)

send_after_promotion_ends : (time size cell sequence i : ℕ) (m : Member) (s : State) → Midway (send_after_promotion time size cell sequence i m s)
unfolding send_after_promotion any
send_after_promotion_ends time size cell sequence i m s =
    if_some_elim Midway _ _ _
    (λ j g.
    and_then_ends (take_over_backup_flight time j _) _ (take_over_ends time j _)
    (λ t. send_own_ends time size cell sequence j _ t (λ k u. refl)))
    (λ g. refl)

send_at_place_ends : (time size cell i : ℕ) (s : State) → Midway (send_at_place time size cell i s)
unfolding send_at_place any
send_at_place_ends time size cell i s =
    if_some_elim Midway _ _ _
    (λ m g.
    if_elim Midway _ _ _ (λ h. refl)
    (λ h. send_own_ends time size cell _ i _ s (λ k u. send_after_promotion_ends time size cell _ i k u)))
    (λ g. refl)

pub send_backup_ends : (time size cell : ℕ) (s : State) → Midway (send_backup time size cell s)
unfolding send_backup any
send_backup_ends time size cell s =
    if_some_elim Midway _ _ _
    (λ i g. and_then_ends (take_over_backup_flight time i _) _ (take_over_ends time i _) (send_at_place_ends time size cell i))
    (λ g. refl)

pub send_broadcast_ends : (time size : ℕ) (s : State) → Gives broadcast_codes (send_broadcast time size s)
unfolding send_broadcast any
send_broadcast_ends time size s =
    if_elim (Gives broadcast_codes) _ _ _ (λ h. refl)
    (λ h. if_elim (Gives broadcast_codes) _ _ _ (λ k. refl) (λ k. if_elim (Gives broadcast_codes) _ _ _ (λ g. refl) (λ g. refl)))

-- ---- the bodies

abbrev send_codes : ℕ → List ℕ
send_codes mode = 23 ∷ (if_true is_backup mode then backup_codes else broadcast_codes)

flow_gives : (cell time : ℕ) (payload : List ℕ) (s : State) (r : Run) → Gives (send_codes s.making.mode) (send_flow cell time payload s r)
unfolding send_flow any all
flow_gives cell time payload s r =
    if_elim (Gives (send_codes s.making.mode)) _ _ _ (λ e. refl)
    (λ e.
    if_elim (Gives (send_codes s.making.mode)) _ _ _
    (λ b.
    subst (λ (codes : List ℕ). Gives (23 ∷ codes) (send_backup time (length payload) cell r.state)) (sym (when_true (is_backup s.making.mode) backup_codes broadcast_codes b))
    (among_passes (λ n. is_among n (0 ∷ 23 ∷ backup_codes)) (0 ∷ backup_codes) refl (send_backup time (length payload) cell r.state).code (send_backup_ends time (length payload) cell r.state)))
    (λ b.
    subst (λ (codes : List ℕ). Gives (23 ∷ codes) (send_broadcast time (length payload) r.state)) (sym (when_false (is_backup s.making.mode) backup_codes broadcast_codes b))
    (among_passes (λ n. is_among n (0 ∷ 23 ∷ broadcast_codes)) (0 ∷ broadcast_codes) refl (send_broadcast time (length payload) r.state).code (send_broadcast_ends time (length payload) r.state))))

-- a send's body ends with 0 or with a code of its mode
pub send_body_gives : (cell time : ℕ) (payload : List ℕ) (s : State) → is_among (send_body cell time payload s).code (0 ∷ send_codes s.making.mode) ≡ true
unfolding send_body left_by_send any
send_body_gives cell time payload s =
    if_elim (λ (x : Step). is_among x.code (0 ∷ send_codes s.making.mode) ≡ true) _ _ _ (λ e. refl) (λ e. flow_gives cell time payload s _)

-- none of them is a code after which nothing has changed
pub send_body_midway : (cell time : ℕ) (payload : List ℕ) (s : State) → changes_nothing (send_body cell time payload s).code ≡ false
unfolding changes_nothing any all
send_body_midway cell time payload s =
    not-true _
    (among_passes (λ n. not (changes_nothing n)) (0 ∷ send_codes s.making.mode)
    (if_elim (λ (ns : List ℕ). all (λ n. not (changes_nothing n)) ns ≡ true) (is_backup s.making.mode) backup_codes broadcast_codes (λ b. refl) (λ b. refl))
    (send_body cell time payload s).code (send_body_gives cell time payload s))

send_body_ends : (cell time : ℕ) (payload : List ℕ) (s : State) → Ends s (send_body cell time payload s)
unfolding send_body left_by_send
send_body_ends cell time payload s =
    if_elim (λ (x : Step). changes_nothing x.code ≡ false → Ends s x) _ _ _ (λ e h. accepted refl) (λ e h. midway h refl refl)
    (send_body_midway cell time payload s)

add_body_ends : (id weight : ℕ) (l : Leg) (s : State) → Ends s (add_body id weight l s)
unfolding add_body changes_nothing any
add_body_ends id weight l s =
    if_elim (Ends s) _ _ _
    (λ e. if_some_elim (Ends s) _ _ _ (λ ms g. accepted refl) (λ g. midway refl refl refl))
    (λ e. accepted refl)

remove_body_ends : (id : ℕ) (s : State) → Ends s (remove_body id s)
unfolding remove_body
remove_body_ends id s =
    if_some_elim (Ends s) _ _ _ (λ f g. accepted refl) (λ g. untouched 3 refl)

can_send_body_ends : (s : State) → Ends s (can_send_body s)
unfolding can_send_body
can_send_body_ends s = if_elim (Ends s) _ _ _ (λ e. accepted refl) (λ e. accepted refl)

can_send_with_pacing_body_ends : (time : ℕ) (s : State) → Ends s (can_send_with_pacing_body time s)
unfolding can_send_with_pacing_body
can_send_with_pacing_body_ends time s = if_elim (Ends s) _ _ _ (λ e. accepted refl) (λ e. accepted refl)

-- ---- every call

pub call_ends : (store output list : ℕ) (c : Call) (s : State) → Ends s (step_of store output list c s)
unfolding step_of add_member mark_member_broken remove_member_connection refresh_member_states disconnect event_poll_body poll_event_call data_poll_body poll_data_call send can_send_call can_send_with_pacing_call read_leg queue_data_body queue_data queue_event
call_ends store output list (call_add_member id weight l queue) s = guard_ends _ s _ (add_body_ends id weight l s)
call_ends store output list (call_mark_member_broken id) s = guard_ends _ s _ (accepted refl)
call_ends store output list (call_remove_member_connection id) s = guard_ends _ s _ (remove_body_ends id s)
call_ends store output list call_refresh_member_states s = guard_ends _ s _ (accepted refl)
call_ends store output list (call_disconnect time) s = guard_ends _ s _ (accepted refl)
call_ends store output list (call_poll_event time) s = guard_ends _ s _ (accepted refl)
call_ends store output list (call_poll_data_bounded time max_events) s = guard_ends _ s _ (accepted refl)
call_ends store output list (call_send time payload) s = guard_ends _ s _ (send_body_ends _ time payload s)
call_ends store output list call_can_send s = guard_ends _ s _ (can_send_body_ends s)
call_ends store output list (call_can_send_with_pacing time) s = guard_ends _ s _ (can_send_with_pacing_body_ends time s)
call_ends store output list (call_look look) s = look_elim (Ends s) look s (λ code. untouched code refl) (λ answer e. accepted refl)
call_ends store output list (call_read_leg id field n) s = guard_ends _ s _ (accepted refl)
call_ends store output list (call_queue_data id d payload) s = guard_ends _ s _ (accepted refl)
call_ends store output list (call_queue_event id kind reason) s = guard_ends _ s _ (accepted refl)

-- ---- the laws

pub record Unchanged (lent : Lent) (s : State) (r : Result) : Type 0 where
  pub state : r.state ≡ s
  pub lent_same : r.lent ≡ lent
  pub answer : r.answer ≡ no_answer
  pub rows : r.rows ≡ 0
  pub log : r.log ≡ []

refused_unchanged : (code : ℕ) (lent : Lent) (s : State) → Unchanged lent s (with_bytes lent (refuse code s))
unfolding with_bytes stored written_out delivered_by list_rows overwritten
refused_unchanged code lent s = record { state = refl; lent_same = refl; answer = refl; rows = refl; log = refl }

zero_changes : changes_nothing 0 ≡ false
unfolding changes_nothing any
zero_changes = refl

ends_unchanged : (lent : Lent) (s : State) (step : Step) → Ends s step → changes_nothing step.code ≡ true → Unchanged lent s (with_bytes lent step)
ends_unchanged lent s step (untouched code e) h =
    subst (λ (x : Step). Unchanged lent s (with_bytes lent x)) (sym e) (refused_unchanged code lent s)
ends_unchanged lent s step (accepted e) h = not_both h (ap changes_nothing e ∙ zero_changes)
ends_unchanged lent s step (midway e a p) h = not_both h e

-- 1 to 6, 20, 21 and 30 to 32 leave everything: the state, the lent bytes and numbers, and no mark
pub refusal_leaves_everything : (c : Call) (lent : Lent) (s : State) → changes_nothing (perform c lent s).code ≡ true → Unchanged lent s (perform c lent s)
unfolding perform with_bytes
refusal_leaves_everything c lent s h = ends_unchanged lent s _ (call_ends _ _ _ c s) h

pub record BytesStay (lent : Lent) (r : Result) : Type 0 where
  pub store : r.lent.store ≡ lent.store
  pub output : r.lent.output ≡ lent.output

ends_bytes : (lent : Lent) (s : State) (step : Step) → Ends s step → (step.code ≡ 0 → ⊥) → BytesStay lent (with_bytes lent step)
unfolding with_bytes stored written_out delivered_by
ends_bytes lent s step (untouched code e) h =
    subst (λ (x : Step). BytesStay lent (with_bytes lent x)) (sym e) record { store = refl; output = refl }
ends_bytes lent s step (accepted e) h = absurd (h e)
ends_bytes lent s step (midway e a p) h =
    record {
      store = ap (λ (o : Option Put). stored o lent.store) p;
      output = ap (λ (x : Answer). written_out (delivered_by x) lent.store lent.output) a;
    }

-- no code writes to the output, and none to the store
pub refusal_writes_no_bytes : (c : Call) (lent : Lent) (s : State) → ((perform c lent s).code ≡ 0 → ⊥) → BytesStay lent (perform c lent s)
unfolding perform with_bytes
refusal_writes_no_bytes c lent s h = ends_bytes lent s _ (call_ends _ _ _ c s) h
