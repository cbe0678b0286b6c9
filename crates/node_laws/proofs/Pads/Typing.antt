-- What happens at a terminal keeps what holds of the PAD and of the book.
use Rattle.std.specs.Prelude.{◌≡◌, ℕ, ◌<◌, ◌≤◌, ◌⊎◌, Bool, true, false, ◌==◌, List, [], ◌∷◌, ◌++◌, length, IfSome, Option, Some, None}
use Rattle.std.proofs.Common.{inl, inr, refl, sym, ap, subst, ◌∙◌, true≢false, arith}
use Rattle.std.proofs.lemmas.Bool.{cases_eq, eqb-true, eqb-false}
use Rattle.std.proofs.lemmas.Option.{none-some, same_Some}
use Rattle.link_timers.specs.declared.role.Role.{Role}
use Rattle.pad_editing.specs.Edited.{Step, effect_of, limit}
use Rattle.pad_editing.proofs.Edits.{AreBounded, effect_of_bounds}
use Rattle.packet_channel.specs.Channel.{Request as LayerRequest, Refusal}
use Rattle.packet_channel.specs.Channel.Request.{Clearing, Resetting, Sending, Interrupting}
use Rattle.packet_layer.specs.Layer.{Layer, channel_given, call_refusal, request_refusal, request}
use Rattle.packet_end.specs.PacketEnd as end
use Rattle.packet_end.proofs.Sizes.{asked_same, called_same}
use Rattle.call_records.specs.Records.{with_epoch, with_sent}
use Rattle.call_records.specs.Book.{Book, packet_of, address_of, edits, sends}
use Rattle.call_records.specs.Writes.{written_by}
use Rattle.x28_commands.specs.declared.command.Selection.{Selection}
use Rattle.x29_messages.specs.MessageForm.{octets_of}
use Rattle.x29_messages.specs.declared.message.Message.{Message}
use Rattle.pad_terminal.specs.Terminal.{TerminalState, has_call}
use Rattle.pad_terminal.specs.Calls as calls
use Rattle.pad_terminal.specs.declared.answers.InputAnswer.{InputAnswer}
use Rattle.pad_terminal.specs.declared.answers.InputAnswer.TheVariants as input
use Rattle.pad_terminal.specs.declared.answers.TerminalRequest.{TerminalRequest}
use Rattle.pad_terminal.specs.declared.answers.TerminalRequest.TheVariants as request
use Rattle.pad_ports.specs.Notes as notes
use Rattle.pad_ports.specs.Notes.{ChannelNote}
use Rattle.pad_ports.specs.PadLine as line
use Rattle.pad_ports.specs.PadLine.{asked, call_parts, datum, interrupt_octet}
use Rattle.pad_ports.specs.Ports as port
use Rattle.pad_ports.specs.Ports.{PortState, AtLine, has_channel}
use Rattle.pad_ports.specs.PadLine.{PadLine}
use Rattle.user_nodes.specs.PadWriting.{write_of}
use Rattle.node_laws.specs.Pads.Holds.{BookHolds, IsPort}
use Rattle.node_laws.proofs.Pads.Asking.{noted, noted_append}
use Rattle.node_laws.proofs.Pads.Records.{epoch_quiet, interrupt_quiet, message_quiet}
use Rattle.node_laws.proofs.Pads.Layers.{call_at, request_notes, request_other, request_here, given_none, call_here, call_keeps, call_notes}
use Rattle.node_laws.proofs.Pads.Books.{narrowed, quiet_at, with_block, edited_holds, opens_holds, closes_holds}
use Rattle.node_laws.proofs.Pads.Modes.{Same, Follows, InputFollows, ended_is}

-- ---- ports

-- the text stays, and so does the call
pub port_same : (q : PortState) (u : TerminalState) (call : Option ℕ) (left : Option ℕ) → Same q.terminal u → (call ≡ None → q.call ≡ None) → (q.call ≡ None → call ≡ None) → IsPort q
    → IsPort (record { terminal = u; call = call; idle_left = left })
port_same q u call left s here there h = record {
  free = λ e. s.1 ∙ h.free (here e);
  bare = λ e. there (h.bare (sym s.1 ∙ e));
  empty = λ e. s.0 ∙ h.empty (sym s.1 ∙ e);
  short = subst (λ (t : List ℕ). length t < limit) (sym s.0) h.short;
}

-- the call is over
pub port_over : (u : TerminalState) (left : Option ℕ) → u.held ≡ [] → has_call u.mode ≡ false → IsPort (record { terminal = u; call = None; idle_left = left })
port_over u left none free = record { free = λ e. free; bare = λ e. refl; empty = λ e. none; short = subst (λ (t : List ℕ). length t < limit) (sym none) (omega arith) }

-- a call that begins
port_new : (u : TerminalState) (c : ℕ) (left : Option ℕ) → length u.held < limit → has_call u.mode ≡ true → IsPort (record { terminal = u; call = Some c; idle_left = left })
port_new u c left short there = record {
  free = λ e. absurd (none-some c (sym e));
  bare = λ e. absurd (true≢false (sym there ∙ e));
  empty = λ e. absurd (true≢false (sym there ∙ e));
  short = short;
}

pub same_channel : (c : ℕ) (d : ℕ) → has_channel (Some c) d ≡ true → c ≡ d
same_channel c d h = eqb-true c d h

pub on_itself : (c : ℕ) → has_channel (Some c) c ≡ true
on_itself c = by (c == c) refl
  where
    by : (v : Bool) → (c == c) ≡ v → v ≡ true
    by true e = refl
    by false e = absurd (eqb-false c c e refl)

-- ---- a terminal at the line, beside others of which texts are held

module _ (role : Role) (b : Book) (Others : ℕ → List ℕ → Type 0) where
  -- its own text, or that of another
  abbrev pub Joined : Option ℕ → List ℕ → ℕ → List ℕ → Type 0
  Joined call held c t = Others c t ⊎ ((has_channel call c ≡ true) × (held ≡ t))

  -- what holds of the others
  pub record OthersHold (l : PadLine) : Type 0 where
    pub size : l.end.layer.flow.size ≡ 128
    pub read : l.end.notes ≡ []
    pub unread : l.end.layer.notes ≡ []
    pub calls : (c : ℕ) (t : List ℕ) → Others c t → call_at l.end.layer c ≡ true
    pub book : BookHolds role Others (noted role l.notes b)

  pub record AtHolds (a : AtLine) : Type 0 where
    pub size : a.line.end.layer.flow.size ≡ 128
    pub port : IsPort a.port
    pub read : a.line.end.notes ≡ []
    pub unread : a.line.end.layer.notes ≡ []
    pub others : (c : ℕ) (t : List ℕ) → Others c t → call_at a.line.end.layer c ≡ true
    pub own : (c : ℕ) → has_channel a.port.call c ≡ true → call_at a.line.end.layer c ≡ true
    pub alone : (c : ℕ) (t : List ℕ) → Others c t → has_channel a.port.call c ≡ true → ⊥
    pub book : BookHolds role (Joined a.port.call a.port.terminal.held) (noted role a.line.notes b)

  others_hold : (a : AtLine) → AtHolds a → OthersHold a.line
  others_hold a h = record {
    size = h.size;
    read = h.read;
    unread = h.unread;
    calls = h.others;
    book = narrowed role (Joined a.port.call a.port.terminal.held) Others (noted role a.line.notes b) (λ c t o. inl o) h.book;
  }

  -- another terminal with the same text, on the same channel
  port_changes : (a : AtLine) (q : PortState) → IsPort q → ((c : ℕ) → has_channel q.call c ≡ true → has_channel a.port.call c ≡ true) → q.terminal.held ≡ a.port.terminal.held
      → AtHolds a → AtHolds (record { port = q; line = a.line })
  port_changes a q is on text h = record {
    size = h.size;
    port = is;
    read = h.read;
    unread = h.unread;
    others = h.others;
    own = λ c e. h.own c (on c e);
    alone = λ c t o e. h.alone c t o (on c e);
    book = narrowed role (Joined a.port.call a.port.terminal.held) (Joined q.call q.terminal.held) (noted role a.line.notes b)
        (λ c t y. elim y [
          | inl o ↦ inl o
          | inr m ↦ inr (on c m.0, sym text ∙ m.1)
        ]) h.book;
  }

  pub terminal_same : (a : AtLine) (u : TerminalState) (left : Option ℕ) → Same a.port.terminal u → AtHolds a → AtHolds (record { port = record { terminal = u; call = a.port.call; idle_left = left }; line = a.line })
  terminal_same a u left s h = port_changes a (record { terminal = u; call = a.port.call; idle_left = left }) (port_same a.port u a.port.call left s (λ e. e) (λ e. e) h.port) (λ c e. e) s.0 h

  -- without a call of its own
  pub over_holds : (l : PadLine) (u : TerminalState) (left : Option ℕ) → u.held ≡ [] → has_call u.mode ≡ false → OthersHold l → AtHolds (record { port = record { terminal = u; call = None; idle_left = left }; line = l })
  over_holds l u left none free h = record {
    size = h.size;
    port = port_over u left none free;
    read = h.read;
    unread = h.unread;
    others = h.calls;
    own = λ c e. absurd (true≢false (sym e));
    alone = λ c t o e. true≢false (sym e);
    book = narrowed role Others (Joined None u.held) (noted role l.notes b)
        (λ c t y. elim y [
          | inl o ↦ o
          | inr m ↦ absurd (true≢false (sym m.0))
        ]) h.book;
  }

  -- ---- requests

  unless_noted : (X : ℕ → List ℕ → Type 0) (o : Option Refusal) (note : ChannelNote) (ns : List ChannelNote) → BookHolds role X (written_by role (write_of note) (noted role ns b)) → BookHolds role X (noted role ns b)
      → BookHolds role X (noted role (ns ++ notes.unless_refused o note) b)
  unless_noted X None note ns h k = subst (λ (z : Book). BookHolds role X z) (sym (noted_append role ns (note ∷ []) b)) h
  unless_noted X (Some r) note ns h k = subst (λ (z : Book). BookHolds role X z) (sym (noted_append role ns [] b)) k

  pub request_keeps : (l : Layer) (c d : ℕ) (r : LayerRequest) → ((cause diagnostic : ℕ) → r ≡ Clearing cause diagnostic → ⊥) → call_at l d ≡ true → call_at (request l c r) d ≡ true
  request_keeps l c d r f h =
      elim (cases_eq d c) [
        | inl q ↦ ap (λ (k : ℕ). call_at (request l c r) k) q ∙ request_here l c r f (ap (λ (k : ℕ). call_at l k) (sym q) ∙ h)
        | inr q ↦ request_other l c d r q ∙ h
      ]

  -- of a request that does not clear, and whose note is a quiet write
  pub asked_holds : (channel : ℕ) (r : LayerRequest) (note : ChannelNote) (a : AtLine) → ((cause diagnostic : ℕ) → r ≡ Clearing cause diagnostic → ⊥)
      → ((X : ℕ → List ℕ → Type 0) (x : Book) → BookHolds role X x → BookHolds role X (written_by role (write_of note) x)) → AtHolds a → AtHolds (record a { line = asked channel r note a.line })
  asked_holds channel r note a f quiet h = record {
    size = asked_same a.line.end channel r ∙ h.size;
    port = h.port;
    read = h.read;
    unread = request_notes a.line.end.layer channel r h.unread;
    others = λ c t o. request_keeps a.line.end.layer channel c r f (h.others c t o);
    own = λ c e. request_keeps a.line.end.layer channel c r f (h.own c e);
    alone = h.alone;
    book =
        unless_noted (Joined a.port.call a.port.terminal.held) (request_refusal a.line.end.layer channel r) note a.line.notes
        (quiet (Joined a.port.call a.port.terminal.held) (noted role a.line.notes b) h.book) h.book;
  }

  -- the call of the terminal is cleared
  cleared_others : (l : PadLine) (channel : ℕ) → ((t : List ℕ) → Others channel t → ⊥) → OthersHold l → OthersHold (line.cleared channel l)
  cleared_others l channel alone h = record {
    size = asked_same l.end channel (Clearing 0 0) ∙ h.size;
    read = h.read;
    unread = request_notes l.end.layer channel (Clearing 0 0) h.unread;
    calls = λ c t o. request_other l.end.layer channel c (Clearing 0 0) (λ e. alone t (subst (λ (k : ℕ). Others k t) e o)) ∙ h.calls c t o;
    book =
        unless_noted Others (request_refusal l.end.layer channel (Clearing 0 0)) (notes.Cleared channel) l.notes
        (closes_holds role Others role channel (noted role l.notes b) h.book) h.book;
  }

  -- with a terminal that has left the call
  pub clears_holds : (a : AtLine) (u : TerminalState) (left : Option ℕ) → u.held ≡ [] → has_call u.mode ≡ false → AtHolds a
      → AtHolds (port.on_call port.clears a.port.call (record { port = record { terminal = u; call = a.port.call; idle_left = left }; line = a.line }))
  clears_holds a u left none free h = by a.port.call refl
    where
      by : (o : Option ℕ) → a.port.call ≡ o → AtHolds (port.on_call port.clears o (record { port = record { terminal = u; call = o; idle_left = left }; line = a.line }))
      by None e = over_holds a.line u left none free (others_hold a h)
      by (Some call) e =
          over_holds (line.cleared call a.line) u left none free
          (cleared_others a.line call (λ t o. h.alone call t o (ap (λ (x : Option ℕ). has_channel x call) e ∙ on_itself call)) (others_hold a h))

  resets_holds : (a : AtLine) → AtHolds a → AtHolds (port.on_call port.resets a.port.call a)
  resets_holds a h = by a.port.call
    where
      by : (o : Option ℕ) → AtHolds (port.on_call port.resets o a)
      by None = h
      by (Some call) = asked_holds call (Resetting 0 0) (notes.WasReset call) a (λ cause diagnostic x. absurd cc) (λ X x k. quiet_at role X x role call with_epoch epoch_quiet k) h

  interrupts_holds : (a : AtLine) → AtHolds a → AtHolds (port.on_call port.interrupts a.port.call a)
  interrupts_holds a h = by a.port.call
    where
      by : (o : Option ℕ) → AtHolds (port.on_call port.interrupts o a)
      by None = h
      by (Some call) =
          asked_holds call (Interrupting (interrupt_octet ∷ [])) (notes.Interrupted call (interrupt_octet ∷ [])) a (λ cause diagnostic x. absurd cc)
          (λ X x k. quiet_at role X x role call _ (interrupt_quiet (interrupt_octet ∷ [])) k) h

  -- ---- messages

  pub tells_holds : (m : Message) (a : AtLine) → AtHolds a → AtHolds (port.tells (Some m) a)
  tells_holds m a h = by a.port.call
    where
      by : (o : Option ℕ) → AtHolds (port.on_call (port.sends (octets_of m) true) o a)
      by None = h
      by (Some call) =
          asked_holds call (Sending (datum (octets_of m) true)) (notes.Sent call (datum (octets_of m) true)) a (λ cause diagnostic x. absurd cc)
          (λ X x k. quiet_at role X x role call (with_sent (packet_of (datum (octets_of m) true))) (message_quiet m) k) h

  -- ---- a call that is placed, from a terminal without one that holds no text

  call_unread : (l : PadLine) (s : Selection) → OthersHold l → (line.placed s.address s.user_data.items l).end.layer.notes ≡ []
  call_unread l s h = call_notes l.end.layer (call_parts s.address s.user_data.items) h.unread

  places_by : (l : PadLine) (s : Selection) (u : TerminalState) (left : Option ℕ) (o : Option ℕ) (refusal : Option Refusal) → channel_given l.end.layer l.end.layer.phase ≡ o → u.held ≡ [] → has_call u.mode ≡ true → OthersHold l
      → AtHolds (record {
        port = port.placed_on o refusal (record { terminal = u; call = None; idle_left = left });
        line = line.noting (line.placed_note o s.address) (record l { end = end.called l.end (call_parts s.address s.user_data.items) });
      })
  places_by l s u left None refusal given none there h =
      let over = ended_is _ u in
      over_holds (line.noting [] (record l { end = end.called l.end (call_parts s.address s.user_data.items) })) (calls.cleared (port.refusal_cause refusal) u) left over.0 over.1
      (record {
        size = called_same l.end (call_parts s.address s.user_data.items) ∙ h.size;
        read = h.read;
        unread = call_unread l s h;
        calls = λ c t o. call_keeps l.end.layer (call_parts s.address s.user_data.items) c (h.calls c t o);
        book = subst (λ (z : Book). BookHolds role Others z) (sym (noted_append role l.notes [] b)) h.book;
      })
  places_by l s u left (Some channel) refusal given none there h = record {
    size = called_same l.end (call_parts s.address s.user_data.items) ∙ h.size;
    port = port_new u channel left (subst (λ (t : List ℕ). length t < limit) (sym none) (omega arith)) there;
    read = h.read;
    unread = call_unread l s h;
    others = λ c t o. call_keeps l.end.layer (call_parts s.address s.user_data.items) c (h.calls c t o);
    own = λ c e. ap (λ (k : ℕ). call_at (end.called l.end (call_parts s.address s.user_data.items)).layer k) (sym (same_channel channel c e))
        ∙ call_here l.end.layer (call_parts s.address s.user_data.items) channel given;
    alone = λ c t o e. not_free t (subst (λ (k : ℕ). Others k t) (sym (same_channel channel c e)) o);
    book =
        subst (λ (z : Book). BookHolds role (Joined (Some channel) u.held) z) (sym (noted_append role l.notes (notes.Placed channel s.address ∷ []) b))
        (opens_holds role Others (Joined (Some channel) u.held) (noted role l.notes b) role channel _ _ (address_of s.address) None refl
        (λ d t y. elim y [
          | inl o ↦ inl o
          | inr m ↦ inr (refl, sym (same_channel channel d m.0))
        ])
        (λ is t y. elim y [
          | inl o ↦ absurd (not_free t o)
          | inr m ↦ sym m.1 ∙ none
        ]) h.book);
  }
    where
      not_free : (t : List ℕ) → Others channel t → ⊥
      not_free t o = true≢false (sym (h.calls channel t o) ∙ given_none l.end.layer channel given)

  -- ---- what is asked

  pub does_holds : (o : Option TerminalRequest) (a : AtLine) (u : TerminalState) (left : Option ℕ) → Follows o a.port.terminal u → AtHolds a
      → AtHolds (port.does_asked o (record { port = record { terminal = u; call = a.port.call; idle_left = left }; line = a.line }))
  does_holds None a u left f h = terminal_same a u left f h
  does_holds (Some (request.Call s)) a u left f h =
      let none : a.port.call ≡ None = h.port.bare f.0 in
      subst (λ (o : Option ℕ). AtHolds (port.places s (record { port = record { terminal = u; call = o; idle_left = left }; line = a.line }))) (sym none)
      (places_by a.line s u left (channel_given a.line.end.layer a.line.end.layer.phase) (call_refusal a.line.end.layer a.line.end.layer.phase) refl (f.1 ∙ h.port.empty f.0) f.2 (others_hold a h))
  does_holds (Some request.Clear) a u left f h = clears_holds a u left f.0 f.1 h
  does_holds (Some request.Interrupt) a u left f h = interrupts_holds (record { port = record { terminal = u; call = a.port.call; idle_left = left }; line = a.line }) (terminal_same a u left f h)
  does_holds (Some request.Reset) a u left f h = resets_holds (record { port = record { terminal = u; call = a.port.call; idle_left = left }; line = a.line }) (terminal_same a u left f h)

  -- ---- a step of editing

  block_short : (o : Option (List ℕ)) (text : List ℕ) → IfSome o (λ block. (1 ≤ length block) × (length block ≤ limit)) → o ≡ Some text → length text ≤ 128
  block_short None text h e = absurd (none-some text e)
  block_short (Some block) text h e = subst (λ (t : List ℕ). length t ≤ 128) (same_Some block text e) h.1

  sent_block : (text : List ℕ) (call : ℕ) (l : PadLine) → request_refusal l.end.layer call (Sending (datum text false)) ≡ None →
      (line.sent call text false l).notes ≡ l.notes ++ notes.Sent call (datum text false) ∷ []
  sent_block text call l none = ap (λ (o : Option Refusal). l.notes ++ notes.unless_refused o (notes.Sent call (datum text false))) none

  -- the step, and the block that it ends, are noted
  abbrev step_line : Step → ℕ → PadLine → PadLine
  step_line step call l = line.noting (notes.Edited call step ∷ []) l

  edited_book : (block : Option (List ℕ)) (step : Step) (call : ℕ) (p : PortState) (l : PadLine)
      → ((text : List ℕ) → block ≡ Some text → request_refusal l.end.layer call (Sending (datum text false)) ≡ None)
      → noted role (port.block_sent block call (record { port = p; line = step_line step call l })).line.notes b ≡ with_block block role call (edits role call step (noted role l.notes b))
  edited_book None step call p l none = noted_append role l.notes (notes.Edited call step ∷ []) b
  edited_book (Some text) step call p l none =
      ap (λ (ns : List ChannelNote). noted role ns b) (sent_block text call (step_line step call l) (none text refl))
      ∙ noted_append role (step_line step call l).notes (notes.Sent call (datum text false) ∷ []) b
      ∙ ap (λ (z : Book). sends role call (datum text false) z) (noted_append role l.notes (notes.Edited call step ∷ []) b)

  abbrev BlockKeeps : Option (List ℕ) → ℕ → PortState → PadLine → Type 0
  BlockKeeps block call p l =
      let m : PadLine = (port.block_sent block call (record { port = p; line = l })).line in
      ((l.end.layer.notes ≡ [] → m.end.layer.notes ≡ []) × ((d : ℕ) → call_at l.end.layer d ≡ true → call_at m.end.layer d ≡ true) × (m.end.notes ≡ l.end.notes) × (m.end.layer.flow.size ≡ l.end.layer.flow.size))

  block_keeps : (block : Option (List ℕ)) (call : ℕ) (p : PortState) (l : PadLine) → BlockKeeps block call p l
  block_keeps None call p l = (λ e. e, λ d h. h, refl, refl)
  block_keeps (Some text) call p l = (
    λ e. request_notes l.end.layer call (Sending (datum text false)) e,
    λ d h. request_keeps l.end.layer call d (Sending (datum text false)) (λ cause diagnostic x. absurd cc) h,
    refl,
    asked_same l.end call (Sending (datum text false)),
  )

  block_port : (block : Option (List ℕ)) (call : ℕ) (p : PortState) (l : PadLine) → (port.block_sent block call (record { port = p; line = l })).port ≡ p
  block_port None call p l = refl
  block_port (Some text) call p l = refl

  edits_with : (block : Option (List ℕ)) (step : Step) (call : ℕ) (a : AtLine) (q : PortState) → a.port.call ≡ Some call → q.call ≡ Some call → IsPort q
      → q.terminal.held ≡ (effect_of step a.port.terminal.held).held → (effect_of step a.port.terminal.held).block ≡ block
      → ((text : List ℕ) → block ≡ Some text → request_refusal a.line.end.layer call (Sending (datum text false)) ≡ None) → AtHolds a
      → AtHolds (record { port = q; line = (port.block_sent block call (record { port = q; line = step_line step call a.line })).line })
  edits_with block step call a q was is port_is text ends none h =
      let keeps = block_keeps block call q (step_line step call a.line) in
      let on : (c : ℕ) → has_channel q.call c ≡ true → has_channel a.port.call c ≡ true = λ c e. ap (λ (o : Option ℕ). has_channel o c) (was ∙ sym is) ∙ e in
      record {
        size = keeps.3 ∙ h.size;
        port = port_is;
        read = keeps.2 ∙ h.read;
        unread = keeps.0 h.unread;
        others = λ c t o. keeps.1 c (h.others c t o);
        own = λ c e. keeps.1 c (h.own c (on c e));
        alone = λ c t o e. h.alone c t o (on c e);
        book =
            subst (λ (z : Book). BookHolds role (Joined q.call q.terminal.held) z) (sym (edited_book block step call q a.line none))
            (edited_holds role (Joined a.port.call a.port.terminal.held) (Joined q.call q.terminal.held) (noted role a.line.notes b) call step block a.port.terminal.held
            (inr (ap (λ (o : Option ℕ). has_channel o call) was ∙ on_itself call, refl)) ends
            (λ d t y. elim y [
              | inl o ↦ inr (λ e. h.alone d t o (ap (λ (x : Option ℕ). has_channel x d) was ∙ subst (λ (k : ℕ). has_channel (Some call) k ≡ true) (sym e) (on_itself call)), inl o)
              | inr m ↦ inl (sym (same_channel call d (ap (λ (o : Option ℕ). has_channel o d) (sym is) ∙ m.0)), sym m.1 ∙ text)
            ]) h.book);
      }

  -- ---- a key, or an idle time

  pub handles_holds : (answer : InputAnswer) (step : Step) (a : AtLine) (u : TerminalState) → InputFollows answer step a.port.terminal u
      → ((text : List ℕ) (call : ℕ) → answer ≡ input.Edited (Some text) → a.port.call ≡ Some call → length text ≤ 128 → request_refusal a.line.end.layer call (Sending (datum text false)) ≡ None)
      → AtHolds a → AtHolds (port.handles answer step (record { port = record { terminal = u; call = a.port.call; idle_left = None }; line = a.line }))
  handles_holds input.Dropped step a u f none h = terminal_same a u None f h
  handles_holds (input.Taken o) step a u f none h = does_holds o a u None f h
  handles_holds (input.Edited block) step a u f none h = by a.port.call refl
    where
      bounds : AreBounded (effect_of step a.port.terminal.held)
      bounds = effect_of_bounds step a.port.terminal.held h.port.short

      by : (o : Option ℕ) → a.port.call ≡ o → AtHolds (port.on_call (port.edits step block) o (record { port = record { terminal = u; call = o; idle_left = None }; line = a.line }))
      by None e = absurd (true≢false (sym f.0 ∙ h.port.free e))
      by (Some call) e =
          let q : PortState = record { terminal = u; call = Some call; idle_left = None } in
          subst (λ (p : PortState). AtHolds (record { port = p; line = (port.block_sent block call (record { port = q; line = step_line step call a.line })).line }))
          (sym (block_port block call q (step_line step call a.line)))
          (edits_with block step call a q e refl
          (port_new u call None (subst (λ (t : List ℕ). length t < limit) (sym f.1) bounds.held) (f.3 ∙ f.0)) f.1 f.2
          (λ text is. none text call (ap input.Edited is) e (block_short (effect_of step a.port.terminal.held).block text bounds.block (f.2 ∙ is))) h)
