-- What goes out comes in at the other end.
use Rattle.std.proofs.Common.{◌≡◌, ℕ, ◌≤◌, List, [], ◌∷◌, ◌++◌, length, map, None, refl, sym, ap, ◌∙◌, All}
use Rattle.std.proofs.lemmas.List.Elements.{All-map}
use Rattle.limits.specs.declared.TheConstants.{RECORD_MOST}
use Rattle.rpc_record.specs.Records.{Parts, split, stream, CanSend, Came}
use Rattle.rpc_record.proofs.lemmas.Streaming.{stream_comes}
use Rattle.wire.specs.Message.{message_spell, MessageFits}
use Rattle.wire.specs.declared.message.Message.{Message}
use Rattle.record_ends.specs.Ends.{out_bytes}

append_none : {A : Type 0} → (xs : List A) → xs ++ [] ≡ xs
append_none [] = refl
append_none (x ∷ xs) = ap (λ z. x ∷ z) (append_none xs)

-- if all bytes of some records came, they are given, and nothing is left
all_come : (records : List (List ℕ)) (parts : Parts) → Came records [] parts → parts ≡ record { records = records; rest = []; spoilt = None }
all_come records parts k =
    let none : k.left ≡ [] = k.all refl in
    let rest : parts.rest ≡ [] = sym (append_none parts.rest) ∙ k.bytes ∙ ap stream none in
    let whole : parts.records ≡ records = sym (k.records ∙ ap (λ l. parts.records ++ l) none ∙ append_none parts.records) in
    ap (λ r. record { records = r; rest = parts.rest; spoilt = parts.spoilt }) whole
    ∙ ap (λ r. record { records = records; rest = r; spoilt = parts.spoilt }) rest
    ∙ ap (λ s. record { records = records; rest = []; spoilt = s }) k.sound

pub out_comes : (messages : List Message) → CanSend (map message_spell messages) → split (out_bytes messages) ≡ record { records = map message_spell messages; rest = []; spoilt = None }
out_comes messages fit = all_come _ _ (stream_comes (map message_spell messages) (out_bytes messages) [] fit (append_none (out_bytes messages)))

pub can_send : (messages : List Message) → All MessageFits messages → CanSend (map message_spell messages)
can_send messages fit = All-map (λ contents. length contents ≤ RECORD_MOST) message_spell messages (λ k d within. (fit k d within).1)
