-- What is remembered of a sender, by induction over the masters.
use Rattle.std.proofs.Common.{◌≡◌, ◌≢◌, ℕ, Bool, true, false, ◌||◌, eqb, inl, inr, List, [], ◌∷◌, Option, Some, None, is_some, refl, sym, ap, ◌∙◌}
use Rattle.std.specs.Prelude.{if◌then◌else◌, find, filter, IsSome}
use Rattle.std.proofs.lemmas.Bool.{cases_Bool, eqb-true, eq-eqb, ne_eqb, both_ways}
use Rattle.dp_telegram.specs.FunctionCode.{asks_srd, function_of, frame_count_bit, frame_count_is_valid}
use Rattle.dp_responder.specs.declared.judgement.Judged.TheVariants as verdicts
use Rattle.dp_responder.specs.Memory.{JudgedRequest, MasterMemory, Remembered, last_after, memory_after, no_memory, remembered_of, same_bit, with_remembered}
use Rattle.dp_responder.specs.Judgement.{judgement}
use Rattle.dp_telegram.specs.declared.access.Parts.{Parts}
use Rattle.dp_sap.specs.AccessTable.{PointsView}

-- the entry of a sender
abbrev entry : ℕ → List MasterMemory → Option MasterMemory
entry sender memory = find (λ m. eqb m.master sender) memory

pub nothing_at_first : (masters : List ℕ) (sender : ℕ) → remembered_of (no_memory masters) sender ≡ None
nothing_at_first [] sender = refl
nothing_at_first (master ∷ masters) sender = elim (cases_Bool (eqb master sender)) [
  | inl e ↦ rw e refl
  | inr e ↦ rw e (nothing_at_first masters sender)
]

-- another sender's request leaves what is remembered unchanged
pub of_another : (memory : List MasterMemory) (sender other fc : ℕ) (reply : List ℕ) → other ≢ sender
    → remembered_of (with_remembered memory other fc reply) sender ≡ remembered_of memory sender
of_another [] sender other fc reply differ = refl
of_another (m ∷ memory) sender other fc reply differ = elim (cases_Bool (eqb m.master other)) [
  | inl e ↦
      let not_sender : eqb m.master sender ≡ false = ne_eqb _ _ (λ same. differ (sym (eqb-true _ _ e) ∙ same)) in
      rw (e, not_sender) (of_another memory sender other fc reply differ)
  | inr e ↦ rw e (elim (cases_Bool (eqb m.master sender)) [
    | inl here ↦ rw here refl
    | inr there ↦ rw there (of_another memory sender other fc reply differ)
  ])
]

-- whether a sender is among the masters doesn't change
known_after : (memory : List MasterMemory) (sender other fc : ℕ) (reply : List ℕ) → is_some (entry sender (with_remembered memory other fc reply)) ≡ is_some (entry sender memory)
known_after [] sender other fc reply = refl
known_after (m ∷ memory) sender other fc reply = elim (cases_Bool (eqb m.master other)) [
  | inl e ↦ rw e (elim (cases_Bool (eqb m.master sender)) [ inl here ↦ rw here refl | inr there ↦ rw there (known_after memory sender other fc reply) ])
  | inr e ↦ rw e (elim (cases_Bool (eqb m.master sender)) [ inl here ↦ rw here refl | inr there ↦ rw there (known_after memory sender other fc reply) ])
]

-- the sender's own request leaves what its definition says, if the sender is a master
pub of_itself : (memory : List MasterMemory) (sender fc : ℕ) (reply : List ℕ)
    → remembered_of (with_remembered memory sender fc reply) sender ≡ (if is_some (entry sender memory) then last_after fc reply (remembered_of memory sender) else None)
of_itself [] sender fc reply = refl
of_itself (m ∷ memory) sender fc reply = elim (cases_Bool (eqb m.master sender)) [
  | inl e ↦ rw e (rw e refl)
  | inr e ↦ rw e (rw e (of_itself memory sender fc reply))
]

-- two memories that agree on a sender agree on it after the requests of all, and after its own
agree_after : (requests : List JudgedRequest) (a b : List MasterMemory) (sender : ℕ) → is_some (entry sender a) ≡ is_some (entry sender b) → remembered_of a sender ≡ remembered_of b sender
    → remembered_of (memory_after a requests) sender ≡ remembered_of (memory_after b (filter (λ request. eqb request.sender sender) requests)) sender
agree_after [] a b sender known same = same
agree_after (request ∷ requests) a b sender known same = elim (cases_Bool (eqb request.sender sender)) [
  | inl e ↦
      let own : request.sender ≡ sender = eqb-true _ _ e in
      let next : (m : List MasterMemory) → remembered_of (with_remembered m request.sender request.fc request.reply) sender
      ≡ (if is_some (entry sender m) then last_after request.fc request.reply (remembered_of m sender) else None) =
      λ m. ap (λ (x : ℕ). remembered_of (with_remembered m x request.fc request.reply) sender) own ∙ of_itself m sender request.fc request.reply in
      rw e (agree_after requests (with_remembered a request.sender request.fc request.reply) (with_remembered b request.sender request.fc request.reply) sender
      (known_after a sender request.sender request.fc request.reply ∙ known ∙ sym (known_after b sender request.sender request.fc request.reply))
      (next a ∙ ap (λ (k : Bool). if k then last_after request.fc request.reply (remembered_of a sender) else None) known
      ∙ ap (λ (o : Option Remembered). if is_some (entry sender b) then last_after request.fc request.reply o else None) same ∙ sym (next b)))
  | inr e ↦
      let differ : request.sender ≢ sender = λ own. absurd (both_ways (eqb request.sender sender) e (eq-eqb _ _ own)) in
      rw e (agree_after requests (with_remembered a request.sender request.fc request.reply) b sender
      (known_after a sender request.sender request.fc request.reply ∙ known)
      (of_another a sender request.sender request.fc request.reply differ ∙ same))
]

pub own_requests : (memory : List MasterMemory) (requests : List JudgedRequest) (sender : ℕ)
    → remembered_of (memory_after memory requests) sender ≡ remembered_of (memory_after memory (filter (λ request. eqb request.sender sender) requests)) sender
own_requests memory requests sender = agree_after requests memory memory sender refl refl

-- a repeat gets the reply that is remembered
remembered_is : (memory : List MasterMemory) (sender fc : ℕ) (reply : List ℕ) → is_some (entry sender memory) ≡ true → asks_srd (function_of fc) ≡ true
    → (frame_count_is_valid fc || frame_count_bit fc) ≡ true
    → remembered_of (with_remembered memory sender fc reply) sender ≡ Some (record { fcb = frame_count_bit fc; reply = reply })
remembered_is memory sender fc reply known srd valid = of_itself memory sender fc reply ∙ rw (known, srd, valid) refl

repeat_by : (last : Option Remembered) (fcb : Bool) (again sender : ℕ) (reply : List ℕ) (points : PointsView) (parts : Parts) → last ≡ Some (record { fcb = fcb; reply = reply })
    → asks_srd (function_of again) ≡ true → frame_count_is_valid again ≡ true → same_bit fcb (frame_count_bit again) ≡ true
    → judgement points last sender again parts ≡ verdicts.Repeat (record { items = reply })
repeat_by last fcb again sender reply points parts e srd valid same = rw (e, srd, valid, same) refl

pub last_reply : (memory : List MasterMemory) (sender fc again : ℕ) (reply : List ℕ) (points : PointsView) (parts : Parts) → IsSome (entry sender memory)
    → asks_srd (function_of fc) ≡ true → (frame_count_is_valid fc || frame_count_bit fc) ≡ true → asks_srd (function_of again) ≡ true → frame_count_is_valid again ≡ true
    → same_bit (frame_count_bit fc) (frame_count_bit again) ≡ true
    → judgement points (remembered_of (with_remembered memory sender fc reply) sender) sender again parts ≡ verdicts.Repeat (record { items = reply })
last_reply memory sender fc again reply points parts known srd valid srd_again valid_again same =
    repeat_by _ (frame_count_bit fc) again sender reply points parts (remembered_is memory sender fc reply known srd valid) srd_again valid_again same
