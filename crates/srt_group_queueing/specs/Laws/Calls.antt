-- The stand-in's calls with their refusals: how each is refused at its start, and what it promises after that.
use Rattle.srt_protocol.specs.Errors.{Outcome}
use Rattle.std.specs.Prelude.{◌≡◌, List, ℕ, length, Err, Ok}
use Rattle.std.proofs.Math.Path.{refl}
use Rattle.srt_protocol.specs.declared.error.Error.{Error}
use Rattle.srt_protocol.specs.Errors.{error_number}
use Rattle.srt_group_model.specs.declared.Data.{Data}
use Rattle.srt_group_model.specs.Guards.{no_answer}
use Rattle.srt_group_model.specs.Calls.{queue_data}
use Rattle.srt_group_model.specs.Lent.{Call, call_queue_data, step_of}
use Rattle.srt_group_shown.specs.Tables.{Parts, Tables, state_of}
use Rattle.srt_group_shown.specs.Ready.{storing, Performs}
use Rattle.srt_group_refusals.specs.Begins.{begun, BeginsStored}
use Rattle.srt_group_refusals.specs.Promised.{nothing_lent, showing, Promised}
use Rattle.srt_group_refusals.specs.Laws.Promised.{promised_refused_6, promised_refused, promised_performed}
use Rattle.srt_group_queueing.specs.Laws.OneMember.{OneMember}

-- ---- `queue_event`, `read_leg`

pub one_member_refused : {call : Call} (c : OneMember call) (p : Parts) (t : Tables) {r : Outcome} (begins : r ≡ begun p t) (e : Error)
    → r ≡ Err e → Promised call p t nothing_lent (showing p t nothing_lent (error_number e) no_answer 0)
one_member_refused {call} c p t begins e refused =
    promised_refused_6 call p t nothing_lent begins _ _ (c.is 0 0 0 (state_of p t)) e refused

-- ---- `queue_data`

module _ (id : ℕ) (d : Data) (payload : List ℕ) (p : Parts) (t : Tables) (store : List ℕ) {r : Outcome} {used : List ℕ}
    (begins : BeginsStored p t (length store) r used) where
  pub data_refused_first : (e : Error) → r ≡ Err e
      → Promised (call_queue_data id d payload) p t (storing store) (showing p t (storing store) (error_number e) no_answer 0)
  unfolding step_of queue_data
  data_refused_first e refused = promised_refused (call_queue_data id d payload) p t (storing store) begins _ _ refl e refused

  pub data_queued : r ≡ Ok tt → {number : ℕ} {t' : Tables} {store' used' : List ℕ}
      → Performs (call_queue_data id d payload) p t (storing store) number no_answer p t' (storing store') used'
      → Promised (call_queue_data id d payload) p t (storing store) (showing p t' (storing store') number no_answer 0)
  data_queued accepted done = promised_performed (call_queue_data id d payload) p t (storing store) begins refl accepted done
