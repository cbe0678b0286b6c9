-- Keys, breaks and printing at a terminal keep what holds of the PAD and of the book.
use Rattle.std.specs.Prelude.{◌≡◌, ℕ, Bool, true, false, if◌then◌else◌, List, [], ◌∷◌, Option, Some, None}
use Rattle.std.proofs.Common.{refl, sym, subst, ◌∙◌, arith}
use Rattle.link_timers.specs.declared.role.Role.{Role}
use Rattle.pad_editing.specs.Edited.{key, idle}
use Rattle.data_transfer.specs.Packets.{Datum}
use Rattle.data_transfer.specs.Traffic.{Taken}
use Rattle.data_transfer.specs.Traffic.Taken.{TakenInterrupt, TakenPacket}
use Rattle.packet_channel.specs.Channel.{Request as LayerRequest}
use Rattle.packet_channel.specs.Channel.Request.{Clearing, Taking, Releasing, Confirming}
use Rattle.packet_layer.specs.Layer.{Layer, request}
use Rattle.packet_end.specs.PacketEnd as end
use Rattle.packet_end.proofs.Sizes.{asked_same}
use Rattle.call_records.specs.Book.{Book, takes}
use Rattle.x3_params.specs.Settings.{acts_on_break}
use Rattle.x3_params.specs.declared.settings.BreakAction.TheVariants as action
use Rattle.x29_messages.specs.declared.message.Message.{Message}
use Rattle.pad_terminal.specs.Terminal.{TerminalState, is_connected, left, arrived}
use Rattle.pad_terminal.specs.Breaks as breaks
use Rattle.pad_terminal.specs.Calls as calls
use Rattle.pad_terminal.specs.Messages as messages
use Rattle.pad_terminal.specs.declared.answers.CallCondition.{CallCondition}
use Rattle.pad_terminal.specs.declared.answers.BreakAnswer.{BreakAnswer}
use Rattle.pad_terminal.specs.declared.answers.BreakAnswer.TheVariants as break_answer
use Rattle.pad_terminal.specs.declared.answers.Reply.{Reply}
use Rattle.pad_terminal.specs.declared.answers.Reply.TheVariants as reply
use Rattle.pad_terminal.specs.declared.answers.TerminalRequest.{TerminalRequest}
use Rattle.pad_terminal.specs.declared.answers.TerminalRequest.TheVariants as request
use Rattle.pad_ports.specs.Notes as notes
use Rattle.pad_ports.specs.PadLine as line
use Rattle.pad_ports.specs.Ports as port
use Rattle.pad_ports.specs.Ports.{PortState, AtLine}
use Rattle.pad_ports.specs.PadLine.{PadLine}
use Rattle.x25_pad.proofs.Blocks.{key_blocks, idle_blocks}
use Rattle.node_laws.specs.Pads.Holds.{BookHolds}
use Rattle.node_laws.proofs.Pads.Asking.{noted, noted_append}
use Rattle.node_laws.proofs.Pads.Layers.{call_at, request_notes}
use Rattle.node_laws.proofs.Pads.Books.{takes_holds, let_go_holds}
use Rattle.node_laws.proofs.Pads.Modes.{Same, Follows, ReplyFollows, key_follows, idle_follows, break_same, arrived_same, octets_follow}
use Rattle.node_laws.proofs.Pads.Typing.{AtHolds, Joined, terminal_same, does_holds, tells_holds, clears_holds, handles_holds, request_keeps}

-- ---- what a break asks

either : {A : Type 0} (P : A → Type 0) (v : Bool) (x y : A) → P x → P y → P (if v then x else y)
either P true x y f g = f
either P false x y f g = g

request_follows : (params : List ℕ) (call : CallCondition) (t u : TerminalState) → Same t u → Follows (breaks.request_of params call) t u
request_follows params call t u s =
    let P : Option TerminalRequest → Type 0 = λ o. Follows o t u in
    either P (acts_on_break params action.Reset) _ _ (either P call.reset_pending None (Some request.Reset) s s) (either P _ (Some request.Interrupt) None s s)

abbrev AnswerFollows : BreakAnswer → TerminalState → TerminalState → Type 0
AnswerFollows break_answer.Dropped t u = Same t u
AnswerFollows (break_answer.Taken requests) t u = Follows requests.request t u

break_follows : (call : CallCondition) (t u : TerminalState) → Same t u → AnswerFollows (breaks.answer_of call t) t u
break_follows call t u s =
    let P : BreakAnswer → Type 0 = λ answer. AnswerFollows answer t u in
    either P (breaks.is_dropped call t) _ _ s
    (either P (is_connected t.mode) _ _ (request_follows t.settings.params call t u s) s)

module _ (role : Role) (b : Book) (Others : ℕ → List ℕ → Type 0) where
  abbrev Holds : AtLine → Type 0
  Holds a = AtHolds role b Others a

  tells_any : (o : Option Message) (a : AtLine) → Holds a → Holds (port.tells o a)
  tells_any None a h = h
  tells_any (Some m) a h = tells_holds role b Others m a h

  answers_hold : (answer : BreakAnswer) (a : AtLine) (u : TerminalState) → AnswerFollows answer a.port.terminal u → Holds a
      → Holds (port.answers_break answer (record { port = record { terminal = u; call = a.port.call; idle_left = a.port.idle_left }; line = a.line }))
  answers_hold break_answer.Dropped a u f h = terminal_same role b Others a u a.port.idle_left f h
  answers_hold (break_answer.Taken requests) a u f h =
      tells_any requests.indication (port.does_asked requests.request (record { port = record { terminal = u; call = a.port.call; idle_left = a.port.idle_left }; line = a.line }))
      (does_holds role b Others requests.request a u a.port.idle_left f h)

  pub break_holds : (a : AtLine) → Holds a → Holds (port.after_break a)
  break_holds a h =
      let call : CallCondition = line.condition a.port.call a.line in
      let u : TerminalState = breaks.after_break call a.port.terminal in
      answers_hold (breaks.answer_of call a.port.terminal) a u (break_follows call a.port.terminal u (break_same call a.port.terminal)) h

  -- ---- keys and idle times

  pub key_holds : (o : ℕ) (a : AtLine) → Holds a → Holds (port.after_key o a)
  key_holds o a h =
      handles_holds role b Others (port.key_input o a).answer (key o a.port.terminal.settings.params) a (port.key_input o a).terminal
      (key_follows o (line.condition a.port.call a.line) a.port.terminal) (λ text call is at short. key_blocks o a text call is at (omega (arith, short, h.size))) h

  pub idle_holds : (a : AtLine) → Holds a → Holds (port.after_idle a)
  idle_holds a h =
      handles_holds role b Others (port.idle_input a).answer (idle a.port.terminal.settings.params) a (port.idle_input a).terminal
      (idle_follows (line.condition a.port.call a.line).queue_full a.port.terminal) (λ text call is at short. idle_blocks a text call is at (omega (arith, short, h.size))) h

  -- ---- leaving

  pub leaving_holds : (a : AtLine) → Holds a → Holds (port.after_leaving a)
  leaving_holds a h = by a.port.call (clears_holds role b Others a (left a.port.terminal.settings.initial) None refl refl h)
    where
      by : (o : Option ℕ) → Holds (port.on_call port.clears o (record { port = record { terminal = left a.port.terminal.settings.initial; call = o; idle_left = None }; line = a.line }))
          → Holds (let cleared = port.on_call port.clears o a in record cleared { port = port.left cleared.port })
      by None k = k
      by (Some call) k = k

  pub arrival_holds : (a : AtLine) → Holds a → Holds (port.after_arrival a)
  arrival_holds a h = terminal_same role b Others a (arrived a.port.terminal) a.port.idle_left (arrived_same a.port.terminal) h

  -- ---- what is taken

  replies_hold : (answer : Reply) (a : AtLine) (u : TerminalState) → ReplyFollows answer a.port.terminal u → Holds a
      → Holds (port.replies answer (record { port = record { terminal = u; call = a.port.call; idle_left = a.port.idle_left }; line = a.line }))
  replies_hold reply.Nothing a u f h = terminal_same role b Others a u a.port.idle_left f h
  replies_hold (reply.Message m) a u f h =
      tells_holds role b Others m (record { port = record { terminal = u; call = a.port.call; idle_left = a.port.idle_left }; line = a.line })
      (terminal_same role b Others a u a.port.idle_left f.1 h)
  replies_hold reply.Clear a u f h = clears_holds role b Others a u a.port.idle_left f.0 f.1 h

  datum_holds : (d : Datum) (qualified : Bool) (a : AtLine) → Holds a → Holds (port.after_datum d qualified a)
  datum_holds d true a h =
      let answered = messages.after_octets d.octets a.port.terminal in
      replies_hold answered.reply a answered.terminal (octets_follow d.octets a.port.terminal) h
  datum_holds d false a h = terminal_same role b Others a (calls.displayed d.octets a.port.terminal) a.port.idle_left (refl, refl) h

  -- it is let go by a request that does not clear
  lets_go_holds : (taken : Taken) (r : LayerRequest) (call : ℕ) (a : AtLine) → ((cause diagnostic : ℕ) → r ≡ Clearing cause diagnostic → ⊥) → Holds a → Holds (port.releases r call (port.takes taken call a))
  lets_go_holds taken r call a f h =
      let l : Layer = a.line.end.layer in
      let m : Layer = request l call Taking in
      let keeps : (c : ℕ) → call_at l c ≡ true → call_at (request m call r) c ≡ true =
      λ c e. request_keeps role b Others m call c r f (request_keeps role b Others l call c Taking (λ cause diagnostic x. absurd cc) e) in
      let X : ℕ → List ℕ → Type 0 = Joined role b Others a.port.call a.port.terminal.held in
      let x : Book = noted role a.line.notes b in
      record {
        size = asked_same (end.asked a.line.end call Taking) call r ∙ asked_same a.line.end call Taking ∙ h.size;
        port = h.port;
        read = h.read;
        unread = request_notes m call r (request_notes l call Taking h.unread);
        others = λ c t o. keeps c (h.others c t o);
        own = λ c e. keeps c (h.own c e);
        alone = h.alone;
        book =
            subst (λ (z : Book). BookHolds role X z) (sym (noted_append role a.line.notes (notes.Took call taken ∷ []) b))
            (let_go_holds role X role call taken (takes role call (Some taken) x) (takes_holds role X role call (Some taken) x h.book));
      }

  taking_holds : (taken : Taken) (call : ℕ) (a : AtLine) → Holds a → Holds (port.after_taking taken call (port.takes taken call a))
  taking_holds (TakenInterrupt octets) call a h = lets_go_holds (TakenInterrupt octets) Confirming call a (λ cause diagnostic x. absurd cc) h
  taking_holds (TakenPacket d) call a h =
      datum_holds d d.qualified (port.releases (Releasing 1) call (port.takes (TakenPacket d) call a)) (lets_go_holds (TakenPacket d) (Releasing 1) call a (λ cause diagnostic x. absurd cc) h)

  next_holds : (o : Option ℕ) (taken : Option Taken) (p : PortState) (l : PadLine) → Holds (record { port = record p { call = o }; line = l })
      → Holds (port.after_taken taken (port.with_taken taken (record { port = record p { call = o }; line = l })))
  next_holds o None p l h = h
  next_holds None (Some taken) p l h = h
  next_holds (Some call) (Some taken) p l h = taking_holds taken call (record { port = record p { call = Some call }; line = l }) h

  pub print_holds : (a : AtLine) → Holds a → Holds (port.after_print a)
  print_holds a h =
      next_holds a.port.call (port.taken_of a) (port.with_terminal (calls.without_text a.port.terminal) a.port) a.line
      (terminal_same role b Others a (calls.without_text a.port.terminal) a.port.idle_left (refl, refl) h)
