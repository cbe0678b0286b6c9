-- What was sent in a record, as the record grows.
use Rattle.std.proofs.Common.{◌≡◌, ℕ, true, false, List, [], ◌∷◌, ◌++◌, map, Option, Some, None, refl, sym, ap, ◌∙◌, append_assoc, append-nil}
use Rattle.std.proofs.lemmas.List.{map-append}
use Rattle.std.specs.Option.{option_to_list}
use Rattle.epochs.specs.Item.{Item, Octet, End, QualifiedOctet, QualifiedEnd, DataPacket, items_of, all_items, user_items}
use Rattle.epochs.specs.Epoch.{Epoch, sent_epoch}
use Rattle.pad_editing.specs.Edited.{Step, Edit, effect_of, edit_of, edited}
use Rattle.pad_editing.proofs.Edits.{edit_of_more}
use Rattle.call_records.specs.Records.{RecordValue, sent_epochs, with_step, with_sent, with_interrupt_sent, with_taken, with_interrupt_taken, with_released, with_covered, with_epoch, with_closed, new_record}
use Rattle.call_records.specs.Book.{packet_of}
use Rattle.x29_messages.specs.MessageForm.{octets_of}
use Rattle.x29_messages.specs.declared.message.Message.{Message}
use Rattle.pad_ports.specs.PadLine.{datum}
use Rattle.node_laws.specs.Pads.Sending.{interrupts_of_epochs, qualified_messages, qualified_items}
use Rattle.record_laws.specs.Words.{items_of_epochs, items_sent, user_messages, HasTyped}

-- ---- lists one after the other

pub user_append : (xs ys : List Item) → user_items (xs ++ ys) ≡ user_items xs ++ user_items ys
user_append [] ys = refl
user_append (Octet x ∷ xs) ys = ap (λ (l : List Item). Octet x ∷ l) (user_append xs ys)
user_append (End ∷ xs) ys = ap (λ (l : List Item). End ∷ l) (user_append xs ys)
user_append (QualifiedOctet x ∷ xs) ys = user_append xs ys
user_append (QualifiedEnd ∷ xs) ys = user_append xs ys

pub qualified_append : (xs ys : List Item) → qualified_items (xs ++ ys) ≡ qualified_items xs ++ qualified_items ys
qualified_append [] ys = refl
qualified_append (Octet x ∷ xs) ys = qualified_append xs ys
qualified_append (End ∷ xs) ys = qualified_append xs ys
qualified_append (QualifiedOctet x ∷ xs) ys = ap (λ (l : List Item). QualifiedOctet x ∷ l) (qualified_append xs ys)
qualified_append (QualifiedEnd ∷ xs) ys = ap (λ (l : List Item). QualifiedEnd ∷ l) (qualified_append xs ys)

packets_append : (ps qs : List DataPacket) → all_items (ps ++ qs) ≡ all_items ps ++ all_items qs
packets_append [] qs = refl
packets_append (p ∷ ps) qs = ap (λ (l : List Item). items_of p ++ l) (packets_append ps qs) ∙ sym (append_assoc (items_of p) (all_items ps) (all_items qs))

epochs_append : (es fs : List Epoch) → items_of_epochs (es ++ fs) ≡ items_of_epochs es ++ items_of_epochs fs
epochs_append [] fs = refl
epochs_append (e ∷ es) fs = ap (λ (l : List Item). e.items ++ l) (epochs_append es fs) ∙ sym (append_assoc e.items (items_of_epochs es) (items_of_epochs fs))

interrupts_append : (es fs : List Epoch) → interrupts_of_epochs (es ++ fs) ≡ interrupts_of_epochs es ++ interrupts_of_epochs fs
interrupts_append [] fs = refl
interrupts_append (e ∷ es) fs =
    ap (λ (l : List (List ℕ)). e.interrupts ++ l) (interrupts_append es fs) ∙ sym (append_assoc e.interrupts (interrupts_of_epochs es) (interrupts_of_epochs fs))

user_more : (bs cs : List (List ℕ)) → user_messages (bs ++ cs) ≡ user_messages bs ++ user_messages cs
user_more [] cs = refl
user_more (b ∷ bs) cs =
    ap (λ (l : List Item). map Octet b ++ End ∷ l) (user_more bs cs) ∙ sym (append_assoc (map Octet b) (End ∷ user_messages bs) (user_messages cs))

pub qualified_more : (bs cs : List (List ℕ)) → qualified_messages (bs ++ cs) ≡ qualified_messages bs ++ qualified_messages cs
qualified_more [] cs = refl
qualified_more (b ∷ bs) cs =
    ap (λ (l : List Item). map QualifiedOctet b ++ QualifiedEnd ∷ l) (qualified_more bs cs)
    ∙ sym (append_assoc (map QualifiedOctet b) (QualifiedEnd ∷ qualified_messages bs) (qualified_messages cs))

-- ---- the items of one kind

-- of octets of this kind and of the other
pub user_user : (xs : List ℕ) (ys : List Item) → user_items (map Octet xs ++ ys) ≡ map Octet xs ++ user_items ys
user_user [] ys = refl
user_user (x ∷ xs) ys = ap (λ (l : List Item). Octet x ∷ l) (user_user xs ys)

pub user_qualified : (xs : List ℕ) (ys : List Item) → user_items (map QualifiedOctet xs ++ ys) ≡ user_items ys
user_qualified [] ys = refl
user_qualified (x ∷ xs) ys = user_qualified xs ys

pub qualified_user : (xs : List ℕ) (ys : List Item) → qualified_items (map Octet xs ++ ys) ≡ qualified_items ys
qualified_user [] ys = refl
qualified_user (x ∷ xs) ys = qualified_user xs ys

pub qualified_qualified : (xs : List ℕ) (ys : List Item) → qualified_items (map QualifiedOctet xs ++ ys) ≡ map QualifiedOctet xs ++ qualified_items ys
qualified_qualified [] ys = refl
qualified_qualified (x ∷ xs) ys = ap (λ (l : List Item). QualifiedOctet x ∷ l) (qualified_qualified xs ys)

-- ---- what was sent

module _ (f : List Item → List Item) (append : (xs ys : List Item) → f (xs ++ ys) ≡ f xs ++ f ys) where
  sent_is : (r : RecordValue) → f (items_sent r) ≡ f (items_of_epochs (map sent_epoch r.sent_before)) ++ f (all_items r.sent.packets)
  sent_is r =
      let before : List Item = items_of_epochs (map sent_epoch r.sent_before) in
      ap (λ (es : List Epoch). f (items_of_epochs es)) (map-append sent_epoch r.sent_before (r.sent ∷ []))
      ∙ ap f (epochs_append (map sent_epoch r.sent_before) (sent_epoch r.sent ∷ []))
      ∙ ap (λ (l : List Item). f (before ++ l)) (append-nil (all_items r.sent.packets))
      ∙ append before (all_items r.sent.packets)

  -- one packet more
  pub sent_more : (p : DataPacket) (r : RecordValue) → f (items_sent (with_sent p r)) ≡ f (items_sent r) ++ f (items_of p)
  sent_more p r =
      let before : List Item = f (items_of_epochs (map sent_epoch r.sent_before)) in
      let now : List Item = all_items r.sent.packets in
      sent_is (with_sent p r)
      ∙ ap (λ (l : List Item). before ++ f l) (packets_append r.sent.packets (p ∷ []))
      ∙ ap (λ (l : List Item). before ++ f (now ++ l)) (append-nil (items_of p))
      ∙ ap (λ (l : List Item). before ++ l) (append now (items_of p))
      ∙ sym (append_assoc before (f now) (f (items_of p)))
      ∙ ap (λ (l : List Item). l ++ f (items_of p)) (sym (sent_is r))

  -- other packets than these were not sent
  pub same_sent : (r q : RecordValue) → q.sent_before ≡ r.sent_before → q.sent.packets ≡ r.sent.packets → f (items_sent q) ≡ f (items_sent r)
  same_sent r q before now =
      sent_is q ∙ ap (λ (es : List Epoch). f (items_of_epochs es) ++ f (all_items q.sent.packets)) (ap (λ es. map sent_epoch es) before)
      ∙ ap (λ (ps : List DataPacket). f (items_of_epochs (map sent_epoch r.sent_before)) ++ f (all_items ps)) now ∙ sym (sent_is r)

  pub renewed_sent : f [] ≡ [] → (r : RecordValue) → f (items_sent (with_epoch r)) ≡ f (items_sent r)
  renewed_sent nil r = sent_is (with_epoch r) ∙ ap (λ (l : List Item). f (items_sent r) ++ l) nil ∙ append-nil (f (items_sent r))

interrupts_are : (r : RecordValue) → interrupts_of_epochs (sent_epochs r) ≡ interrupts_of_epochs (map sent_epoch r.sent_before) ++ r.sent.interrupts
interrupts_are r =
    ap interrupts_of_epochs (map-append sent_epoch r.sent_before (r.sent ∷ []))
    ∙ interrupts_append (map sent_epoch r.sent_before) (sent_epoch r.sent ∷ [])
    ∙ ap (λ (l : List (List ℕ)). interrupts_of_epochs (map sent_epoch r.sent_before) ++ l) (append-nil r.sent.interrupts)

pub interrupts_more : (octets : List ℕ) (r : RecordValue) → interrupts_of_epochs (sent_epochs (with_interrupt_sent octets r)) ≡ interrupts_of_epochs (sent_epochs r) ++ octets ∷ []
interrupts_more octets r =
    interrupts_are (with_interrupt_sent octets r)
    ∙ sym (append_assoc (interrupts_of_epochs (map sent_epoch r.sent_before)) r.sent.interrupts (octets ∷ []))
    ∙ ap (λ (l : List (List ℕ)). l ++ octets ∷ []) (sym (interrupts_are r))

pub same_interrupts : (r q : RecordValue) → q.sent_before ≡ r.sent_before → q.sent.interrupts ≡ r.sent.interrupts → interrupts_of_epochs (sent_epochs q) ≡ interrupts_of_epochs (sent_epochs r)
same_interrupts r q before now =
    interrupts_are q ∙ ap (λ es. interrupts_of_epochs (map sent_epoch es) ++ q.sent.interrupts) before
    ∙ ap (λ (is : List (List ℕ)). interrupts_of_epochs (map sent_epoch r.sent_before) ++ is) now ∙ sym (interrupts_are r)

pub renewed_interrupts : (r : RecordValue) → interrupts_of_epochs (sent_epochs (with_epoch r)) ≡ interrupts_of_epochs (sent_epochs r)
renewed_interrupts r = interrupts_are (with_epoch r) ∙ append-nil (interrupts_of_epochs (sent_epochs r))

-- ---- changes that edit nothing, nor send to the user

typed_as : (r q : RecordValue) → user_items (items_sent q) ≡ user_items (items_sent r) → q.steps ≡ r.steps → HasTyped r → HasTyped q
typed_as r q user steps h = user ∙ h ∙ ap (λ (ss : List Step). user_messages (edited ss)) (sym steps)

same_has : (r q : RecordValue) → q.sent_before ≡ r.sent_before → q.sent.packets ≡ r.sent.packets → q.steps ≡ r.steps → HasTyped r → HasTyped q
same_has r q before packets steps h = typed_as r q (same_sent user_items user_append r q before packets) steps h

-- of such a change: node and steps stay, and what was sent to the user is still what was typed
pub record IsQuiet (f : RecordValue → RecordValue) : Type 0 where
  pub node : (r : RecordValue) → (f r).node ≡ r.node
  pub has_typed : (r : RecordValue) → HasTyped r → HasTyped (f r)
  pub steps : (r : RecordValue) → (f r).steps ≡ r.steps

pub taken_quiet : (p : DataPacket) → IsQuiet (with_taken p)
taken_quiet p = record { node = λ r. refl; has_typed = λ r h. same_has r (with_taken p r) refl refl refl h; steps = λ r. refl }

pub interrupt_taken_quiet : (octets : List ℕ) → IsQuiet (with_interrupt_taken octets)
interrupt_taken_quiet octets = record { node = λ r. refl; has_typed = λ r h. same_has r (with_interrupt_taken octets r) refl refl refl h; steps = λ r. refl }

pub released_quiet : (n : ℕ) → IsQuiet (with_released n)
released_quiet n = record { node = λ r. refl; has_typed = λ r h. same_has r (with_released n r) refl refl refl h; steps = λ r. refl }

pub covered_quiet : (n : ℕ) → IsQuiet (with_covered n)
covered_quiet n = record { node = λ r. refl; has_typed = λ r h. same_has r (with_covered n r) refl refl refl h; steps = λ r. refl }

pub closed_quiet : IsQuiet with_closed
closed_quiet = record { node = λ r. refl; has_typed = λ r h. same_has r (with_closed r) refl refl refl h; steps = λ r. refl }

pub epoch_quiet : IsQuiet with_epoch
epoch_quiet = record {
  node = λ r. refl;
  has_typed = λ r h. typed_as r (with_epoch r) (renewed_sent user_items user_append refl r) refl h;
  steps = λ r. refl;
}

pub interrupt_quiet : (octets : List ℕ) → IsQuiet (with_interrupt_sent octets)
interrupt_quiet octets = record { node = λ r. refl; has_typed = λ r h. same_has r (with_interrupt_sent octets r) refl refl refl h; steps = λ r. refl }

-- a message is none of the user
pub message_quiet : (m : Message) → IsQuiet (with_sent (packet_of (datum (octets_of m) true)))
message_quiet m = record {
  node = λ r. refl;
  has_typed = λ r h.
      let p : DataPacket = packet_of (datum (octets_of m) true) in
      typed_as r (with_sent p r)
      (sent_more user_items user_append p r ∙ ap (λ (l : List Item). user_items (items_sent r) ++ l) (user_qualified (octets_of m) (QualifiedEnd ∷ []))
      ∙ append-nil (user_items (items_sent r))) refl h;
  steps = λ r. refl;
}

-- ---- a step of editing, and the block that it ends, if any, in one packet

abbrev pub with_edit : Step → Option (List ℕ) → RecordValue → RecordValue
with_edit step None r = with_step step r
with_edit step (Some block) r = with_sent (packet_of (datum block false)) (with_step step r)

pub edit_node : (step : Step) (o : Option (List ℕ)) (r : RecordValue) → (with_edit step o r).node ≡ r.node
edit_node step None r = refl
edit_node step (Some block) r = refl

edit_steps : (step : Step) (o : Option (List ℕ)) (r : RecordValue) → (with_edit step o r).steps ≡ r.steps ++ step ∷ []
edit_steps step None r = refl
edit_steps step (Some block) r = refl

blocks_more : (steps : List Step) (step : Step) (o : Option (List ℕ)) → (effect_of step (edit_of steps).held).block ≡ o
    → user_messages (edited (steps ++ step ∷ [])) ≡ user_messages (edited steps) ++ user_messages (option_to_list o)
blocks_more steps step o e =
    ap (λ (x : Edit). user_messages x.blocks) (edit_of_more steps step)
    ∙ user_more (edited steps) (option_to_list (effect_of step (edit_of steps).held).block)
    ∙ ap (λ (x : Option (List ℕ)). user_messages (edited steps) ++ user_messages (option_to_list x)) e

sent_edit : (step : Step) (o : Option (List ℕ)) (r : RecordValue) → user_items (items_sent (with_edit step o r)) ≡ user_items (items_sent r) ++ user_messages (option_to_list o)
sent_edit step None r = same_sent user_items user_append r (with_step step r) refl refl ∙ sym (append-nil (user_items (items_sent r)))
sent_edit step (Some block) r =
    sent_more user_items user_append (packet_of (datum block false)) (with_step step r)
    ∙ ap (λ (l : List Item). user_items (items_sent r) ++ l) (user_user block (End ∷ []))

pub edit_has : (step : Step) (o : Option (List ℕ)) (r : RecordValue) → (effect_of step (edit_of r.steps).held).block ≡ o → HasTyped r → HasTyped (with_edit step o r)
edit_has step o r e h =
    sent_edit step o r ∙ ap (λ (l : List Item). l ++ user_messages (option_to_list o)) h ∙ sym (blocks_more r.steps step o e)
    ∙ ap (λ (ss : List Step). user_messages (edited ss)) (sym (edit_steps step o r))

pub edit_held : (step : Step) (o : Option (List ℕ)) (r : RecordValue) → (edit_of (with_edit step o r).steps).held ≡ (effect_of step (edit_of r.steps).held).held
edit_held step o r = ap (λ (ss : List Step). (edit_of ss).held) (edit_steps step o r) ∙ ap (λ (x : Edit). x.held) (edit_of_more r.steps step)

-- ---- a record that is made

pub new_has : (number node : ℕ) (own far : Option (List ℕ)) (caller : Option ℕ) → HasTyped (new_record number node own far caller)
new_has number node own far caller = refl
