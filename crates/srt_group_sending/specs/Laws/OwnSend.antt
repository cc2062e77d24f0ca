-- What is proved of the definitions in specs/OwnSend.antt.
use Rattle.std.specs.Prelude.{◌≡◌, true, false, ℕ, ◌+◌, None, Option, Some, is_some}
use Rattle.std.proofs.Math.Path.{refl, ap, sym}
use Rattle.std.proofs.Common.{◌∙◌, arith}
use mathlib.Core.List.{List, [], ◌∷◌}
use Rattle.srt_group_model.specs.Tools.{if_true◌then◌else◌, if_some◌give◌otherwise◌}
use Rattle.srt_group_model.specs.State.{with_leg}
use Rattle.srt_group_model.specs.Legs.{send_shared_with_sequence}
use Rattle.srt_group_model.specs.Members.{id_of}
use Rattle.srt_group_model.specs.Sending.{own_payload}
use Rattle.srt_group_model.specs.declared.Leg.{Leg}
use Rattle.srt_connection.specs.Laws.Answers.{result_ok, result_err}
use Rattle.srt_connection_members.specs.Members.{member_at, Changed}
use Rattle.srt_connection_members.specs.Laws.Members.{changed_by, unchanged}
use Rattle.srt_group_sending.specs.SentList.{send_tables, sent_row, Wrote}
use Rattle.srt_group_sending.specs.Laws.SentList.{wrote_nothing}
use Rattle.srt_group_sending.specs.OwnSend.{after_own_send, SentOn}

-- ---- whether there is a leg after the send

pub not_some : (o : Option Leg) → false ≡ is_some o → o ≡ None
not_some None is = refl
not_some (Some l) is = cc is

pub with_some : {B : Type 0} (o : Option Leg) → true ≡ is_some o → ((l : Leg) → o ≡ Some l → B) → B
with_some None is go = let different : ◌≡◌ {A = ℕ} 0 1 = cc is in absurd (omega arith)
with_some (Some l) is go = go l refl

-- ---- the send

module _ (time size sequence i sent : ℕ) (t list : List ℕ) {l : Leg} {result : Option Leg} (leg : l ≡ (member_at t i).leg)
    (is : result ≡ send_shared_with_sequence time size sequence l) where
  its_send : (o : Option Leg) → send_shared_with_sequence time size sequence l ≡ o
      → send_shared_with_sequence time size sequence (member_at t i).leg ≡ o
  its_send o same = ap (send_shared_with_sequence time size sequence) (sym leg) ∙ same

  pub own_not_sent : result ≡ None → SentOn time size sequence i sent (send_tables t list) false (send_tables t list)
  unfolding if_true◌then◌else◌ if_some◌give◌otherwise◌
  own_not_sent err =
      record {
        succeeded = sym (rw failed);
        changed = changed_by i t t (after_own_send time size sequence) (unchanged i t) (sym (rw failed));
        written = wrote_nothing sent list;
      }
    where
      failed : send_shared_with_sequence time size sequence (member_at t i).leg ≡ None
      failed = its_send None (result_err (send_shared_with_sequence time size sequence l) (sym err ∙ is))

  pub own_sent : {id : ℕ} {u list_after : List ℕ} (k : Leg) → result ≡ Some k
      → id ≡ id_of (member_at t i) → Changed i (with_leg k) t u
      → Wrote sent (sent_row id sequence own_payload time time ∷ []) list (sent + 1) list_after
      → SentOn time size sequence i sent (send_tables t list) true (send_tables u list_after)
  unfolding if_true◌then◌else◌ if_some◌give◌otherwise◌
  own_sent {id} {u} {list_after} k ok member c wrote =
      record {
        succeeded = sym (rw succeeds);
        changed = changed_by i t u (after_own_send time size sequence) c (sym (rw succeeds));
        written = rw member at wrote;
      }
    where
      succeeds : send_shared_with_sequence time size sequence (member_at t i).leg ≡ Some k
      succeeds = its_send (Some k) (result_ok (send_shared_with_sequence time size sequence l) k (sym ok ∙ is))
