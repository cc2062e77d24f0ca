-- One test serves both refreshes of a poll: the visits between them leave a quiet group quiet, or an event waits.
use Rattle.std.specs.Prelude.{◌≡◌, Bool, not, ◌&&◌, ◌||◌}
use Rattle.std.proofs.Math.Path.{refl, ap}
use Rattle.std.proofs.Common.{ap₂, sym, subst, ◌∙◌}
use Rattle.std.proofs.Math.Bool.{true}
use mathlib.Core.List.{List, [], ◌∷◌, ◌++◌}
use Prim.Native.Nat.{ℕ, zero, suc, ◌≤◌}
use Rattle.std.proofs.lemmas.Bool.{not-false}
use Rattle.srt_group_model.specs.declared.Core.{Core}
use Rattle.srt_group_model.specs.declared.Event.{Event}
use Rattle.srt_group_model.specs.declared.Packet.{Packet}
use Rattle.srt_group_model.specs.declared.Sending.{Sending}
use Rattle.srt_group_model.specs.declared.Waiting.{Waiting}
use Rattle.srt_group_model.specs.Tools.{is_empty, all, any, change}
use Rattle.srt_group_model.specs.Laws.Reason.{if_elim, if_some_elim, not_both}
use Rattle.srt_group_model.specs.State.{Member, State, is_backup, with_members, on_leg, on_account}
use Rattle.srt_group_model.specs.Accounts.{reserve}
use Rattle.srt_group_model.specs.Legs.{release_data_reservation}
use Rattle.srt_group_model.specs.Members.{is_active}
use Rattle.srt_group_model.specs.Run.{Run, refresh_pending_states}
use Rattle.srt_group_model.specs.Collecting.{retain_group_packet, report_event, collect_member_event, Visited, take_front, collect_one_event, collect_until_held}
use Rattle.srt_group_model.specs.Delivery.{max_visits}
use Rattle.srt_group_model.specs.Laws.Queues.{pop}
use Rattle.srt_group_members.specs.Quiet.{is_steady, is_quiet}
use Rattle.srt_group_members.specs.Laws.Quiet.{refresh_pending_stays}
use Rattle.srt_group_tables.specs.Waitings.{waiting_at}
use Rattle.srt_group_shown.specs.Shown.{blank, remembering}
use Rattle.srt_group_shown.specs.Tables.{receive_tables}
use Rattle.srt_group_collecting.specs.declared.collecting.Gathered.{Gathered}
use Rattle.srt_group_collecting.specs.Leaves.{sends, under_way}
use Rattle.srt_group_collecting.specs.Gather.{Gathers}
use Rattle.srt_group_collecting.specs.Laws.Gather.{tab_spent}
use Rattle.srt_group_polls.specs.Refresh.{Refreshes, Known}

-- ---- one member changed in what the test does not read

module _ (test : Member → Bool) (f : Member → Member) (same : (m : Member) → test (f m) ≡ test m) where
  all_same : (i : ℕ) (ms : List Member) → all test (change i f ms) ≡ all test ms
  unfolding all change
  all_same i [] = refl
  all_same zero (m ∷ ms) = ap (λ (b : Bool). b && all test ms) (same m)
  all_same (suc i) (m ∷ ms) = ap (λ (b : Bool). test m && b) (all_same i ms)

  any_same : (i : ℕ) (ms : List Member) → any test (change i f ms) ≡ any test ms
  unfolding any change
  any_same i [] = refl
  any_same zero (m ∷ ms) = ap (λ (b : Bool). b || any test ms) (same m)
  any_same (suc i) (m ∷ ms) = ap (λ (b : Bool). test m || b) (any_same i ms)

pub quiet_same : (mode i : ℕ) (f : Member → Member) (ms : List Member) → ((m : Member) → is_steady (f m) ≡ is_steady m)
    → ((m : Member) → is_active (f m) ≡ is_active m) → is_quiet mode (change i f ms) ≡ is_quiet mode ms
unfolding is_quiet
quiet_same mode i f ms steady active =
    ap₂ (λ (a b : Bool). a && (not (is_backup mode) || b)) (all_same is_steady f steady i ms) (any_same is_active f active i ms)

-- ---- the visits

-- if no event waits, the group is quiet
abbrev Still : State → Type 0
Still s = is_empty s.waiting ≡ true → is_quiet s.making.mode s.members ≡ true

module _ (s : State) (i : ℕ) (still : Still s) where
  changed_still : (f : Member → Member) → ((m : Member) → is_steady (f m) ≡ is_steady m) → ((m : Member) → is_active (f m) ≡ is_active m)
      → Still (with_members (change i f s.members) s)
  changed_still f steady active none_waits = quiet_same s.making.mode i f s.members steady active ∙ still none_waits

  popped_still : Still (with_members (change i pop s.members) s)
  unfolding is_steady is_active
  popped_still = changed_still pop (λ m. refl) (λ m. refl)

  retained_still : (p : Packet) → Still (retain_group_packet i p s)
  unfolding retain_group_packet is_steady is_active
  retained_still p =
      if_elim Still _ _ _ (λ e. changed_still (on_leg (release_data_reservation p.content.count)) (λ m. refl) (λ m. refl))
      (λ e. changed_still (on_account (reserve p.content.count)) (λ m. refl) (λ m. refl))

  reported_still : (w : Waiting) → Still (report_event i w s)
  unfolding report_event is_empty
  reported_still w none_waits = go s.waiting none_waits
    where
      go : {B : Type 0} (ws : List Waiting) → is_empty (ws ++ (w ∷ [])) ≡ true → B
      go [] e = not_both e refl
      go (x ∷ ws) e = not_both e refl

collected_still : (i id : ℕ) (e : Event) (r : Run) → Still r.state → Still (collect_member_event i id e r).state
unfolding collect_member_event
collected_still i id e r still =
    if_elim (λ (x : Run). Still x.state) _ _ _ (λ k. retained_still r.state i still _) (λ k. reported_still r.state i still _)

taken_still : (i : ℕ) (m : Member) (r : Run) → Still r.state → Still (take_front i m r).run.state
unfolding take_front
taken_still i m r still =
    if_some_elim (λ (v : Visited). Still v.run.state) _ _ _
    (λ e g.
    if_elim (λ (v : Visited). Still v.run.state) _ _ _ (λ b. still)
    (λ b. collected_still i _ e _ (popped_still r.state i still)))
    (λ g. still)

visited_still : (r : Run) → Still r.state → Still (collect_one_event r).run.state
unfolding collect_one_event
visited_still r still =
    if_some_elim (λ (v : Visited). Still v.run.state) _ _ _
    (λ i g. if_some_elim (λ (v : Visited). Still v.run.state) _ _ _ (λ m k. taken_still i m r still) (λ k. still))
    (λ g. still)

gathered_still : (n : ℕ) (r : Run) → Still r.state → Still (collect_until_held n r).state
unfolding collect_until_held
gathered_still zero r still = still
gathered_still (suc n) r still =
    let more = visited_still r still in
    if_elim (λ (x : Run). Still x.state) _ _ _ (λ e. still)
    (λ e.
    if_elim (λ (x : Run). Still x.state) _ _ _ (λ g. more)
    (λ g. if_elim (λ (x : Run). Still x.state) _ _ _ (λ k. more) (λ k. gathered_still n _ more)))

-- ---- what the test said at the poll's start is known after its steps

module _ {quiet : Bool} (core : Core) (ms : List ℕ) (known : Known quiet core ms) where
  pub known_begun : (sending : Sending) (begun : Core) (ms₁ : List ℕ)
      → Refreshes (sends sending) refresh_pending_states core ms begun ms₁ → Known quiet begun ms₁
  known_begun sending begun ms₁ refreshed said =
      let others = remembering sending [] in
      let r = under_way core others (receive_tables ms [] []) [] 0 in
      let same : refresh_pending_states r ≡ r = refresh_pending_stays r (known said) in
      subst (λ (s : State). is_quiet s.making.mode s.members ≡ true)
      (ap (λ (x : Run). x.state) (sym same) ∙ (refreshed.run [] [] others refl [] 0).state) (known said)

  pub known_gathered : (budget : ℕ) (ps ws : List ℕ) (gathered : Gathered) (ms₂ ps₂ ws₂ : List ℕ)
      → Gathers core budget (receive_tables ms ps ws) gathered (receive_tables ms₂ ps₂ ws₂)
      → gathered.core.counts.waiting ≤ 0 → Known quiet gathered.core ms₂
  known_gathered budget ps ws gathered ms₂ ps₂ ws₂ gathers none_waits said =
      subst Still (gathers.run blank []).state
      (gathered_still max_visits (under_way core blank (receive_tables ms ps ws) [] budget) (λ e. known said))
      (not-false _ (tab_spent gathered.core.counts.waiting (waiting_at ws₂) none_waits))
