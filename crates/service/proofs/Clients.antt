-- What is done at the port of a client, from when it came.
use Rattle.std.proofs.Common.{◌≡◌, ◌+◌, ℕ, Bool, true, false, List, [], ◌∷◌, ◌++◌, refl, sym, ap, ◌∙◌, subst, append-nil, cond, take, drop, length, Some, ◌-◌, ◌&&◌, ◌==◌}
use Rattle.std.specs.Prelude.{nat_le, nat_lt}
use Rattle.service_ports.specs.declared.command.TelnetCommand.TheVariants.{NoOperation}
use Rattle.service_ports.specs.declared.mode.PortMode.{PortMode}
use Rattle.service_ports.specs.declared.mode.PortMode.TheVariants.{Telnet, Raw}
use Rattle.service_ports.specs.Modes.{is_telnet, with_shown}
use Rattle.service_ports.specs.Ports.{PortState, begun, first_output, after_octets}
use Rattle.service_ports.specs.Reading.{new_reader}
use Rattle.service_ports.specs.Writing.{Output, with_command}
use Rattle.service.specs.declared.place.Place.{Place}
use Rattle.service.specs.declared.terminal.Phase.{Phase}
use Rattle.service.specs.declared.terminal.Phase.TheVariants.{Free, Open, Ending, Closing, Closed}
use Rattle.service.specs.declared.terminal.Presence.TheVariants.{Gone}
use Rattle.service.specs.declared.terminal.Terminal.{Terminal}
use Rattle.service.specs.declared.terminal.Terms.{Terms}
use Rattle.service.specs.declared.terminal.TheConstants.{SILENT}
use Rattle.service.specs.Terminals.{aged, attached, dismissed, elapsed_in, ended, has_client, has_room, heard, is_closing, is_ending, is_open, is_too_silent, kept_alive, left, left_if_written, ordered, told_silent, with_shown_at, written}
use Rattle.service.specs.Steps.{Step, shown, typed}
use Rattle.service.specs.Serving.{Fate, Befall, IsServed}
use Rattle.service.specs.Clients.{Deed, works, hears, writes, waits, ends, orders, Did, History, steps_in, heard_in, written_in, told_in, shown_in, all_steps, all_heard, all_written, all_shown, ClientsAreServed}
use Rattle.service.proofs.Keys.{befall-then, befall-more}
use Rattle.service.proofs.Stepping.{typed-append}
use Rattle.service.proofs.Heard.{reader_from, reader_from-append, keys_from, keys_from-append, keys_of_mode, answers_from, tells_all, has_heard, IsRead, read_nothing, read_text, read_answers, read_command, read_written, text_of_mode}
use Rattle.service_ports.specs.ClientForm.{with_items}

-- what holds of a port after some of what is done: the steps, what was written, heard and shown
pub record SoFar (at : Place) (mode : PortMode) (has_xon : Bool) (steps : List Step) (out input seen : List ℕ) (port : PortState) : Type 0 where
  pub mode_is : port.mode ≡ mode
  pub reads : IsRead mode out port.output seen
  pub reader : port.reader ≡ reader_from mode new_reader input
  pub fates : List Fate
  pub keys : Befall has_xon fates (keys_from mode new_reader input) (typed at steps) port.keys.items

so_far_at : (at : Place) (mode : PortMode) (has_xon : Bool) (steps steps_now : List Step) (out out_now input input_now seen seen_now : List ℕ) (port now : PortState)
    → steps ≡ steps_now → out ≡ out_now → input ≡ input_now → seen ≡ seen_now → port ≡ now
    → SoFar at mode has_xon steps out input seen port → SoFar at mode has_xon steps_now out_now input_now seen_now now
so_far_at at mode has_xon steps steps_now out out_now input input_now seen seen_now port now a b c d e so_far =
    subst (λ xs. SoFar at mode has_xon xs out_now input_now seen_now now) a
    (subst (λ xs. SoFar at mode has_xon steps xs input_now seen_now now) b
    (subst (λ xs. SoFar at mode has_xon steps out xs seen_now now) c
    (subst (λ xs. SoFar at mode has_xon steps out input xs now) d
    (subst (λ (r : PortState). SoFar at mode has_xon steps out input seen r) e so_far))))

-- nothing is done at the port
so_far_same : (at : Place) (mode : PortMode) (has_xon : Bool) (steps : List Step) (out input seen : List ℕ) (port now : PortState) → now ≡ port
    → SoFar at mode has_xon steps out input seen port → SoFar at mode has_xon (steps ++ []) (out ++ []) (input ++ []) (seen ++ []) now
so_far_same at mode has_xon steps out input seen port now is so_far =
    so_far_at at mode has_xon steps (steps ++ []) out (out ++ []) input (input ++ []) seen (seen ++ []) port now
    (sym (append-nil steps)) (sym (append-nil out)) (sym (append-nil input)) (sym (append-nil seen)) (sym is) so_far

-- only the output changes, and this is read of it
so_far_told : (at : Place) (mode : PortMode) (has_xon : Bool) (steps : List Step) (out input seen text : List ℕ) (port now : PortState) (o : Output)
    → now ≡ record port { output = o } → IsRead mode out o (seen ++ text)
    → SoFar at mode has_xon steps out input seen port → SoFar at mode has_xon (steps ++ []) (out ++ []) (input ++ []) (seen ++ text) now
so_far_told at mode has_xon steps out input seen text port now o is read so_far =
    so_far_at at mode has_xon steps (steps ++ []) out (out ++ []) input (input ++ []) (seen ++ text) (seen ++ text) (record port { output = o }) now
    (sym (append-nil steps)) (sym (append-nil out)) (sym (append-nil input)) refl (sym is) (record {
      mode_is = so_far.mode_is;
      reads = read;
      reader = so_far.reader;
      fates = so_far.fates;
      keys = so_far.keys;
    })

-- ---- whether the client is still there

left_goes_by : (b : Bool) (p q : Terminal) → has_client q.phase ≡ false → b ≡ has_client p.phase → has_client (cond b q p).phase ≡ true → ⊥
left_goes_by true p q gone is client = cc
left_goes_by false p q gone is client = cc

-- a client that left is not there
left_goes : (p : Terminal) → has_client (left p).phase ≡ true → ⊥
left_goes p client = left_goes_by (has_client p.phase) p (record p { port = begun p.port.mode; phase = Closing; untold = Some Gone }) refl refl client

stays_by : (b : Bool) (p q : Terminal) → q ≡ cond b (left p) p → has_client q.phase ≡ true → q ≡ p
stays_by true p q is client = absurd (left_goes p (subst (λ (r : Terminal). has_client r.phase ≡ true) is client))
stays_by false p q is client = is

-- a client that is still there did not leave
stays : (p q : Terminal) → q ≡ left_if_written p → has_client q.phase ≡ true → q ≡ p
stays p q is client = stays_by (is_ending p.phase && (length p.port.output.octets == 0)) p q is client

same_port : (b : Bool) (p : Terminal) → (cond b (record p { phase = Ending 200 }) p).port ≡ p.port
same_port true p = refl
same_port false p = refl

-- a client that is to go, and is still there, has the same port
ends_at : (p q : Terminal) → q ≡ ended p → has_client q.phase ≡ true → q.port ≡ p.port
ends_at p q is client =
    ap (λ (r : Terminal). r.port) (stays (cond (is_open p.phase) (record p { phase = Ending 200 }) p) q is client) ∙ same_port (is_open p.phase) p

-- ---- steps

on_works : (at : Place) (mode : PortMode) (has_xon : Bool) (steps more : List Step) (out input seen : List ℕ) (p q : Terminal) → IsServed at more p q → p.terms.has_xon ≡ has_xon
    → SoFar at mode has_xon steps out input seen p.port → SoFar at mode has_xon (steps ++ more) (out ++ []) (input ++ []) (seen ++ shown at more) q.port
on_works at mode has_xon steps more out input seen p q served xon_is so_far =
    let text = shown at more in
    let output : q.port.output ≡ with_shown mode p.port.output text
    = served.output ∙ ap (λ m. with_shown m p.port.output text) so_far.mode_is in
    so_far_at at mode has_xon (steps ++ more) (steps ++ more) out (out ++ []) input (input ++ []) (seen ++ text) (seen ++ text) q.port q.port
    refl (sym (append-nil out)) (sym (append-nil input)) refl refl (record {
      mode_is = served.mode ∙ so_far.mode_is;
      reads = subst (λ o. IsRead mode out o (seen ++ text)) (sym output) (read_text mode out p.port.output seen text so_far.reads);
      reader = served.reader ∙ so_far.reader;
      fates = so_far.fates ++ served.fates;
      keys = subst (λ keys. Befall has_xon (so_far.fates ++ served.fates) (keys_from mode new_reader input) keys q.port.keys.items) (sym (typed-append at steps more))
          (befall-then has_xon so_far.fates served.fates (keys_from mode new_reader input) (typed at steps) p.port.keys.items (typed at more) q.port.keys.items so_far.keys
          (subst (λ has. Befall has served.fates p.port.keys.items (typed at more) q.port.keys.items) xon_is served.keys));
    })

-- ---- octets of the client

on_hears : (at : Place) (mode : PortMode) (has_xon : Bool) (steps : List Step) (out input seen octets : List ℕ) (port now : PortState) → now ≡ after_octets port octets
    → SoFar at mode has_xon steps out input seen port → SoFar at mode has_xon (steps ++ []) (out ++ []) (input ++ octets) (seen ++ []) now
on_hears at mode has_xon steps out input seen octets port now is so_far =
    let has = has_heard port octets in
    let after = after_octets port octets in
    let more = keys_from port.mode port.reader octets in
    let same_more : more ≡ keys_from mode (reader_from mode new_reader input) octets = λ i. keys_from (so_far.mode_is i) (so_far.reader i) octets in
    let all_keys : keys_from mode new_reader input ++ more ≡ keys_from mode new_reader (input ++ octets)
    = ap (λ keys. keys_from mode new_reader input ++ keys) same_more ∙ sym (keys_from-append mode new_reader input octets) in
    so_far_at at mode has_xon steps (steps ++ []) out (out ++ []) (input ++ octets) (input ++ octets) seen (seen ++ []) after now
    (sym (append-nil steps)) (sym (append-nil out)) refl (sym (append-nil seen)) (sym is) (record {
      mode_is = has.mode ∙ so_far.mode_is;
      reads = subst (λ o. IsRead mode out o seen) (sym has.output)
          (subst (λ m. IsRead mode out (with_items port.output (tells_all (answers_from m port.reader octets))) seen) (sym so_far.mode_is)
          (read_answers mode out port.output seen port.reader octets so_far.reads));
      reader = has.reader ∙ (λ i. reader_from (so_far.mode_is i) (so_far.reader i) octets) ∙ sym (reader_from-append mode new_reader input octets);
      fates = so_far.fates;
      keys = subst (λ keys. Befall has_xon so_far.fates (keys_from mode new_reader (input ++ octets)) (typed at steps) keys) (sym has.keys)
          (subst (λ keys. Befall has_xon so_far.fates keys (typed at steps) (port.keys.items ++ more)) all_keys
          (befall-more has_xon so_far.fates (keys_from mode new_reader input) (typed at steps) port.keys.items more so_far.keys));
    })

hears_by : (b : Bool) (at : Place) (mode : PortMode) (has_xon : Bool) (steps : List Step) (out input seen octets : List ℕ) (p q : Terminal)
    → q ≡ cond b (record p { port = after_octets p.port octets; silence = 0; quiet = 0 }) p → SoFar at mode has_xon steps out input seen p.port
    → SoFar at mode has_xon (steps ++ []) (out ++ []) (input ++ cond b octets []) (seen ++ []) q.port
hears_by true at mode has_xon steps out input seen octets p q is so_far =
    on_hears at mode has_xon steps out input seen octets p.port q.port (ap (λ (r : Terminal). r.port) is) so_far
hears_by false at mode has_xon steps out input seen octets p q is so_far =
    so_far_same at mode has_xon steps out input seen p.port q.port (ap (λ (r : Terminal). r.port) is) so_far

-- ---- octets that are written

on_writes : (at : Place) (mode : PortMode) (has_xon : Bool) (steps : List Step) (out input seen : List ℕ) (count : ℕ) (p q : Terminal) → q ≡ written count p
    → has_client q.phase ≡ true → SoFar at mode has_xon steps out input seen p.port
    → SoFar at mode has_xon (steps ++ []) (out ++ take count p.port.output.octets) (input ++ []) (seen ++ []) q.port
on_writes at mode has_xon steps out input seen count p q is client so_far =
    let o : Output = record p.port.output { octets = drop count p.port.output.octets } in
    let now : Terminal = record p { port = record p.port { output = o }; quiet = 0 } in
    let out_now = out ++ take count p.port.output.octets in
    so_far_at at mode has_xon steps (steps ++ []) out_now out_now input (input ++ []) seen (seen ++ []) (record p.port { output = o }) q.port
    (sym (append-nil steps)) refl (sym (append-nil input)) (sym (append-nil seen)) (sym (ap (λ (r : Terminal). r.port) (stays now q is client))) (record {
      mode_is = so_far.mode_is;
      reads = read_written mode out count p.port.output seen so_far.reads;
      reader = so_far.reader;
      fates = so_far.fates;
      keys = so_far.keys;
    })

-- ---- ticks

-- a client that was silent too long is told so, if it is one of telnet and there is room
tells_by : (room : Bool) (at : Place) (mode : PortMode) (has_xon : Bool) (steps : List Step) (out input seen : List ℕ) (port now : PortState)
    → now ≡ cond room (record port { output = with_shown port.mode port.output SILENT }) port → SoFar at mode has_xon steps out input seen port
    → SoFar at mode has_xon (steps ++ []) (out ++ []) (input ++ []) (seen ++ cond room SILENT []) now
tells_by true at mode has_xon steps out input seen port now is so_far =
    let o = with_shown mode port.output SILENT in
    so_far_told at mode has_xon steps out input seen SILENT port now o
    (is ∙ ap (λ m. record port { output = with_shown m port.output SILENT }) so_far.mode_is)
    (read_text mode out port.output seen SILENT so_far.reads) so_far
tells_by false at mode has_xon steps out input seen port now is so_far = so_far_same at mode has_xon steps out input seen port now is so_far

dismissed_by : (telnet : Bool) (at : Place) (mode : PortMode) (has_xon : Bool) (steps : List Step) (out input seen : List ℕ) (port now : PortState)
    → now ≡ cond telnet (with_shown_at SILENT port) port → SoFar at mode has_xon steps out input seen port
    → SoFar at mode has_xon (steps ++ []) (out ++ []) (input ++ []) (seen ++ cond (telnet && has_room (length SILENT) port) SILENT []) now
dismissed_by true at mode has_xon steps out input seen port now is so_far =
    tells_by (has_room (length SILENT) port) at mode has_xon steps out input seen port now is so_far
dismissed_by false at mode has_xon steps out input seen port now is so_far = so_far_same at mode has_xon steps out input seen port now is so_far

-- a quiet client is sent a command, if it is one of telnet
keeps_by : (quiet : Bool) (at : Place) (mode : PortMode) (has_xon : Bool) (steps : List Step) (out input seen : List ℕ) (port now : PortState) (room : Bool)
    → now ≡ cond (quiet && (is_telnet mode && room)) (record port { output = with_command port.output NoOperation }) port
    → SoFar at mode has_xon steps out input seen port → SoFar at mode has_xon (steps ++ []) (out ++ []) (input ++ []) (seen ++ []) now
keeps_by true at Telnet has_xon steps out input seen port now true is so_far =
    let o = with_command port.output NoOperation in
    so_far_told at Telnet has_xon steps out input seen [] port now o is
    (subst (λ t. IsRead Telnet out o t) (sym (append-nil seen)) (read_command out port.output seen NoOperation so_far.reads)) so_far
keeps_by true at Telnet has_xon steps out input seen port now false is so_far = so_far_same at Telnet has_xon steps out input seen port now is so_far
keeps_by true at Raw has_xon steps out input seen port now room is so_far = so_far_same at Raw has_xon steps out input seen port now is so_far
keeps_by false at mode has_xon steps out input seen port now room is so_far = so_far_same at mode has_xon steps out input seen port now is so_far

port_by : (b : Bool) (p q : Terminal) → (cond b p q).port ≡ cond b p.port q.port
port_by true p q = refl
port_by false p q = refl

waits_by : (silent : Bool) (at : Place) (mode : PortMode) (has_xon : Bool) (steps : List Step) (out input seen : List ℕ) (p q : Terminal)
    → q ≡ cond silent (dismissed p) (kept_alive p) → has_client q.phase ≡ true → SoFar at mode has_xon steps out input seen p.port
    → SoFar at mode has_xon (steps ++ []) (out ++ []) (input ++ []) (seen ++ cond (silent && (is_telnet p.port.mode && has_room (length SILENT) p.port)) SILENT []) q.port
waits_by true at mode has_xon steps out input seen p q is client so_far =
    dismissed_by (is_telnet p.port.mode) at mode has_xon steps out input seen p.port q.port
    (ends_at (record p { port = told_silent p.port; was_silent = true }) q is client) so_far
waits_by false at mode has_xon steps out input seen p q is client so_far =
    let room = nat_le (length p.port.output.octets + 4) p.port.output.capacity in
    keeps_by (nat_le 1200 p.quiet) at mode has_xon steps out input seen p.port q.port room
    (ap (λ (r : Terminal). r.port) is
    ∙ port_by (nat_le 1200 p.quiet && (is_telnet p.port.mode && room)) (record p { port = record p.port { output = with_command p.port.output NoOperation }; quiet = 0 }) p
    ∙ ap (λ m. cond (nat_le 1200 p.quiet && (is_telnet m && room)) (record p.port { output = with_command p.port.output NoOperation }) p.port) so_far.mode_is)
    so_far

-- a client that is to go, and is still there
unless_left : (b : Bool) (p other q : Terminal) → q ≡ cond b other (left p) → has_client q.phase ≡ true → q ≡ other
unless_left false p other q is client = absurd (left_goes p (subst (λ (r : Terminal). has_client r.phase ≡ true) is client))
unless_left true p other q is client = is

on_waits : (phase : Phase) (at : Place) (mode : PortMode) (has_xon : Bool) (steps : List Step) (out input seen : List ℕ) (ticks : ℕ) (p q : Terminal)
    → q ≡ elapsed_in phase ticks p → has_client q.phase ≡ true → SoFar at mode has_xon steps out input seen p.port
    → SoFar at mode has_xon (steps ++ []) (out ++ []) (input ++ []) (seen ++ told_in phase ticks p) q.port
on_waits Open at mode has_xon steps out input seen ticks p q is client so_far =
    waits_by (is_too_silent (aged ticks p)) at mode has_xon steps out input seen (aged ticks p) q is client so_far
on_waits (Ending rest) at mode has_xon steps out input seen ticks p q is client so_far =
    so_far_same at mode has_xon steps out input seen p.port q.port
    (ap (λ (r : Terminal). r.port) (unless_left (nat_lt ticks rest) p (record p { phase = Ending (rest - ticks) }) q is client)) so_far
on_waits Free at mode has_xon steps out input seen ticks p q is client so_far =
    so_far_same at mode has_xon steps out input seen p.port q.port (ap (λ (r : Terminal). r.port) is) so_far
on_waits Closing at mode has_xon steps out input seen ticks p q is client so_far =
    so_far_same at mode has_xon steps out input seen p.port q.port (ap (λ (r : Terminal). r.port) is) so_far
on_waits Closed at mode has_xon steps out input seen ticks p q is client so_far =
    so_far_same at mode has_xon steps out input seen p.port q.port (ap (λ (r : Terminal). r.port) is) so_far

-- ---- orders

ordered_port : (silent closing : Bool) (p : Terminal)
    → (cond silent (record p { was_silent = false }) (cond closing (record p { phase = Closed }) (record p { logged = p.overtaken }))).port ≡ p.port
ordered_port true closing p = refl
ordered_port false true p = refl
ordered_port false false p = refl

-- ---- what a terminal has of its table stays

kept_by : (b : Bool) (x y p : Terminal) → x.terms ≡ p.terms → y.terms ≡ p.terms → (cond b x y).terms ≡ p.terms
kept_by true x y p one two = one
kept_by false x y p one two = two

left_keeps : (p : Terminal) → (left p).terms ≡ p.terms
left_keeps p = kept_by (has_client p.phase) (record p { port = begun p.port.mode; phase = Closing; untold = Some Gone }) p p refl refl

written_keeps : (p : Terminal) → (left_if_written p).terms ≡ p.terms
written_keeps p = kept_by (is_ending p.phase && (length p.port.output.octets == 0)) (left p) p p (left_keeps p) refl

ended_keeps : (p : Terminal) → (ended p).terms ≡ p.terms
ended_keeps p =
    let going : Terminal = cond (is_open p.phase) (record p { phase = Ending 200 }) p in
    written_keeps going ∙ kept_by (is_open p.phase) (record p { phase = Ending 200 }) p p refl refl

waited_keeps : (p : Terminal) → (cond (is_too_silent p) (dismissed p) (kept_alive p)).terms ≡ p.terms
waited_keeps p = kept_by (is_too_silent p) (dismissed p) (kept_alive p) p
    (ended_keeps (record p { port = told_silent p.port; was_silent = true }))
    (kept_by (nat_le 1200 p.quiet && (is_telnet p.port.mode && nat_le (length p.port.output.octets + 4) p.port.output.capacity))
    (record p { port = record p.port { output = with_command p.port.output NoOperation }; quiet = 0 }) p p refl refl)

elapsed_keeps : (phase : Phase) (ticks : ℕ) (p : Terminal) → (elapsed_in phase ticks p).terms ≡ p.terms
elapsed_keeps Open ticks p = waited_keeps (aged ticks p)
elapsed_keeps (Ending rest) ticks p = kept_by (nat_lt ticks rest) (record p { phase = Ending (rest - ticks) }) (left p) p refl (left_keeps p)
elapsed_keeps Free ticks p = refl
elapsed_keeps Closing ticks p = refl
elapsed_keeps Closed ticks p = refl

terms_of : (p q r : Terminal) → q ≡ r → r.terms ≡ p.terms → q.terms ≡ p.terms
terms_of p q r is same = ap (λ (x : Terminal). x.terms) is ∙ same

terms_kept : (at : Place) (deed : Deed) (p q : Terminal) → Did at deed p q → q.terms ≡ p.terms
terms_kept at (works steps) p q did = did.terms
terms_kept at (hears octets) p q did =
    terms_of p q (heard octets p) did (kept_by (is_open p.phase) (record p { port = after_octets p.port octets; silence = 0; quiet = 0 }) p p refl refl)
terms_kept at (writes count) p q did = terms_of p q (written count p) did (written_keeps (record p {
  port = record p.port { output = record p.port.output { octets = drop count p.port.output.octets } };
  quiet = 0;
}))
terms_kept at (waits ticks) p q did = terms_of p q (elapsed_in p.phase ticks p) did (elapsed_keeps p.phase ticks p)
terms_kept at ends p q did = terms_of p q (ended p) did (ended_keeps p)
terms_kept at orders p q did = terms_of p q (ordered p) did
    (kept_by p.was_silent (record p { was_silent = false }) (cond (is_closing p.phase) (record p { phase = Closed }) (record p { logged = p.overtaken })) p refl
    (kept_by (is_closing p.phase) (record p { phase = Closed }) (record p { logged = p.overtaken }) p refl refl))

-- ---- what is done, one after the other

on_deed : (at : Place) (mode : PortMode) (has_xon : Bool) (steps : List Step) (out input seen : List ℕ) (deed : Deed) (p q : Terminal) → Did at deed p q
    → has_client q.phase ≡ true → p.terms.has_xon ≡ has_xon → SoFar at mode has_xon steps out input seen p.port
    → SoFar at mode has_xon (steps ++ steps_in deed) (out ++ written_in deed p) (input ++ heard_in deed p) (seen ++ shown_in at deed p) q.port
on_deed at mode has_xon steps out input seen (works more) p q did client xon_is so_far = on_works at mode has_xon steps more out input seen p q did xon_is so_far
on_deed at mode has_xon steps out input seen (hears octets) p q did client xon_is so_far = hears_by (is_open p.phase) at mode has_xon steps out input seen octets p q did so_far
on_deed at mode has_xon steps out input seen (writes count) p q did client xon_is so_far = on_writes at mode has_xon steps out input seen count p q did client so_far
on_deed at mode has_xon steps out input seen (waits ticks) p q did client xon_is so_far = on_waits p.phase at mode has_xon steps out input seen ticks p q did client so_far
on_deed at mode has_xon steps out input seen ends p q did client xon_is so_far =
    so_far_same at mode has_xon steps out input seen p.port q.port (ends_at p q did client) so_far
on_deed at mode has_xon steps out input seen orders p q did client xon_is so_far =
    so_far_same at mode has_xon steps out input seen p.port q.port (ap (λ (r : Terminal). r.port) did ∙ ordered_port p.was_silent (is_closing p.phase) p) so_far

in_all : (at : Place) (mode : PortMode) (has_xon : Bool) (steps : List Step) (out input seen : List ℕ) (p : Terminal) (deeds : List Deed) (q : Terminal)
    (history : History at p deeds q) → p.terms.has_xon ≡ has_xon → SoFar at mode has_xon steps out input seen p.port
    → SoFar at mode has_xon (all_steps steps deeds) (all_written at out p deeds q history) (all_heard at input p deeds q history) (all_shown at seen p deeds q history) q.port
in_all at mode has_xon steps out input seen p [] q history xon_is so_far = subst (λ (r : Terminal). SoFar at mode has_xon steps out input seen r.port) history so_far
in_all at mode has_xon steps out input seen p (deed ∷ deeds) q history xon_is so_far =
    in_all at mode has_xon (steps ++ steps_in deed) (out ++ written_in deed p) (input ++ heard_in deed p) (seen ++ shown_in at deed p) history.0 deeds q history.3
    (ap (λ (terms : Terms). terms.has_xon) (terms_kept at deed p history.0 history.1) ∙ xon_is)
    (on_deed at mode has_xon steps out input seen deed p history.0 history.1 history.2 xon_is so_far)

-- a client that came reads the greeting
greeted_so : (room : Bool) (greeting : List ℕ) (port : PortState) → room ≡ true
    → cond room (record port { output = with_shown port.mode port.output greeting }) port ≡ record port { output = with_shown port.mode port.output greeting }
greeted_so true greeting port is = refl
greeted_so false greeting port is = cc

begins : (at : Place) (mode : PortMode) (has_xon : Bool) (greeting : List ℕ) → has_room (length greeting) (begun mode) ≡ true
    → SoFar at mode has_xon [] [] [] greeting (with_shown_at greeting (begun mode))
begins at mode has_xon greeting place =
    subst (λ (r : PortState). SoFar at mode has_xon [] [] [] greeting r) (sym (greeted_so (has_room (length greeting) (begun mode)) greeting (begun mode) place)) (record {
      mode_is = refl;
      reads = read_text mode [] (first_output mode) [] greeting (read_nothing mode);
      reader = refl;
      fates = [];
      keys = (refl, refl);
    })

pub clients_are_served : ClientsAreServed
clients_are_served at free deeds q place history =
    let mode = free.port.mode in
    let greeting = free.terms.greeting.items in
    let has_xon = free.terms.has_xon in
    let all = in_all at mode has_xon [] [] [] greeting (attached free) deeds q history refl (begins at mode has_xon greeting place) in
    let heard_all = all_heard at [] (attached free) deeds q history in
    record {
      reads = text_of_mode mode _ q.port.output _ all.reads;
      fates = all.fates;
      keys = subst (λ keys. Befall free.terms.has_xon all.fates keys (typed at (all_steps [] deeds)) q.port.keys.items) (keys_of_mode mode heard_all) all.keys;
    }
