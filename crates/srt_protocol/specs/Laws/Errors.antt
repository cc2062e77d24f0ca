-- What is proved of the definitions in specs/Errors.antt, with what the proofs need.
use Rattle.std.specs.Prelude.{◌≡◌, ℕ, Bool, true, false, List, [], ◌∷◌, ◌==◌, ◌≢◌, refl, None, Option, Some}
use Rattle.std.proofs.Common.{ap, arith}
use Rattle.srt_protocol.specs.declared.error.Error.{Error}
use Rattle.srt_protocol.specs.declared.error.Error.TheVariants.{MissingGroupMask, OutOfRange, UnknownMember, PayloadTooLong, InsufficientBuffer, InvalidState, MemberLimit, DuplicateMember, AlignmentFailed, PayloadAboveLimit, NoActiveMember, SequenceMismatch, AllBroadcastFailed, AllBackupFailed, ReplayRefused, PromotionSendFailed, NoFreeCell, QueueFull, OutOfTurn}
use Rattle.srt_protocol.specs.Errors.{error_number}

-- ---- distinct refusals have distinct numbers

abbrev refusals : List Error
refusals =
    MissingGroupMask ∷ OutOfRange ∷ UnknownMember ∷ PayloadTooLong
    ∷ InsufficientBuffer ∷ InvalidState ∷ MemberLimit ∷ DuplicateMember
    ∷ AlignmentFailed ∷ PayloadAboveLimit ∷ NoActiveMember ∷ SequenceMismatch
    ∷ AllBroadcastFailed ∷ AllBackupFailed ∷ ReplayRefused ∷ PromotionSendFailed
    ∷ NoFreeCell ∷ QueueFull ∷ OutOfTurn ∷ []

-- the first refusal of a list that has this number
abbrev numbered : ℕ → List Error → Option Error
numbered n [] = None
numbered n (e ∷ es) = first_if (n == error_number e) e (numbered n es)
  where
    first_if : Bool → Error → Option Error → Option Error
    first_if true e other = Some e
    first_if false e other = other

number_found : (e : Error) → numbered (error_number e) refusals ≡ Some e
number_found MissingGroupMask = refl
number_found OutOfRange = refl
number_found UnknownMember = refl
number_found PayloadTooLong = refl
number_found InsufficientBuffer = refl
number_found InvalidState = refl
number_found MemberLimit = refl
number_found DuplicateMember = refl
number_found AlignmentFailed = refl
number_found PayloadAboveLimit = refl
number_found NoActiveMember = refl
number_found SequenceMismatch = refl
number_found AllBroadcastFailed = refl
number_found AllBackupFailed = refl
number_found ReplayRefused = refl
number_found PromotionSendFailed = refl
number_found NoFreeCell = refl
number_found QueueFull = refl
number_found OutOfTurn = refl

pub error_number_injective : (a b : Error) → error_number a ≡ error_number b → a ≡ b
error_number_injective a b same = cc (number_found a, number_found b, ap (λ (n : ℕ). numbered n refusals) same)

-- no refusal has the number of an accepted call
pub refused_not_0 : (e : Error) → error_number e ≢ 0
refused_not_0 e is =
    let never : ◌≡◌ {A = ℕ} 0 1 = cc (number_found e, ap (λ (n : ℕ). numbered n refusals) is) in
    omega arith
