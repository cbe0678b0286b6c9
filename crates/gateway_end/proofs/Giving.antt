-- Packets that calls give, one list after another.
use Rattle.std.proofs.Common.{◌≡◌, ◌∙◌, ℕ, Bool, true, false, List, [], ◌∷◌, ◌++◌, refl, ap, sym, append_assoc}
use Rattle.std.specs.Prelude.{Option, Some, None, is_some, if◌then◌else◌}
use Rattle.arrayvec.specs.ArrayVec.{ArrayVec}
use Rattle.std.proofs.lemmas.List.{append-nil}
use Rattle.lapb.specs.Machine.{Octets, can_offer}
use Rattle.line_end.specs.End.{End, offered}
use Rattle.xot_gateway.specs.declared.calls.LineState.{LineState}
use Rattle.xot_gateway.specs.declared.calls.LineState.TheVariants as line_is
use Rattle.xot_gateway.specs.declared.calls.XotCalls.{XotCalls}
use Rattle.xot_gateway.specs.Calls.{PaysIn, PaysOwed}
use Rattle.gateway_end.specs.Gives.{Gives, nothing, pays, serves, paid, served}
use Rattle.gateway_end.specs.GatewayEnd.{GatewayEnd, Pass, with_queued}
use Rattle.gateway_end.specs.Waiting.{waiting_in}

pub gives_then : (given more : List Octets) (before middle after : XotCalls) → Gives before given middle
    → Gives middle more after → Gives before (given ++ more) after
gives_then given more before middle after first second = go second
  where
    go : {packets : List Octets} {to : XotCalls} → Gives middle packets to → Gives before (given ++ packets) to
    go nothing = rw (append-nil given) first
    go (pays packets between to answer old packet rest step) =
        rw (← append_assoc given packets (paid answer packet)) (pays (given ++ packets) between to answer old packet (go rest) step)
    go (serves packets between to number answer old packet rest step) =
        rw (← append_assoc given packets (served answer packet)) (serves (given ++ packets) between to number answer old packet (go rest) step)

abbrev pub pass_same : (end : GatewayEnd) → Pass end end
pass_same end = record {
  given = [];
  sent = [];
  gives = nothing;
  order = append-nil end.waiting;
  line = sym (ap (λ queue. record end.line { link = record end.line.link { queue = queue } }) (append-nil end.line.link.queue));
}

pub pass_then : (a b c : GatewayEnd) → Pass a b → Pass b c → Pass a c
pass_then a b c first second = record {
  given = first.given ++ second.given;
  sent = first.sent ++ second.sent;
  gives = gives_then first.given second.given a.calls b.calls c.calls first.gives second.gives;
  order =
      sym (append_assoc a.waiting first.given second.given)
      ∙ ap (λ (x : List Octets). x ++ second.given) first.order
      ∙ append_assoc first.sent b.waiting second.given
      ∙ ap (λ (x : List Octets). first.sent ++ x) second.order
      ∙ sym (append_assoc first.sent second.sent c.waiting);
  line =
      second.line
      ∙ ap (λ (e : End). with_queued second.sent e) first.line
      ∙ ap (λ (queue : List Octets). record a.line { link = record a.line.link { queue = queue } })
      (append_assoc a.line.link.queue first.sent second.sent);
}

-- the link takes the packet that waits
pub pass_packet : (before : GatewayEnd) (packet : Octets) → before.waiting ≡ packet ∷ [] → can_offer before.line.link ≡ true
    → Pass before (record before { line = offered before.line packet; waiting = [] })
pass_packet before packet waits may = record {
  given = [];
  sent = packet ∷ [];
  gives = nothing;
  order = append-nil before.waiting ∙ waits;
  line = ap (λ (takes : Bool). record before.line {
    link = record before.line.link {
      queue = if takes then before.line.link.queue ++ packet ∷ [] else before.line.link.queue;
    };
  }) may;
}

-- the calls are asked while none waits
pub pass_asked : (before after : GatewayEnd) (given : List Octets) → before.waiting ≡ [] → Gives before.calls given after.calls
    → after.line ≡ before.line → after.waiting ≡ given → Pass before after
pass_asked before after given none gives line waits = record {
  given = given;
  sent = [];
  gives = gives;
  order = ap (λ (w : List Octets). w ++ given) none ∙ sym waits;
  line = line ∙ (pass_same before).line;
}

pub none_waits : (next : Option (ArrayVec ℕ)) → is_some next ≡ false → waiting_in next ≡ []
none_waits None e = refl
none_waits (Some packet) e = absurd (cc)

-- what is owed changes nothing of what the line carries
pub pays_line : (answer : Bool) (old packet : Octets) (before after : XotCalls) → PaysOwed answer old packet before after
    → after.line ≡ before.line
pays_line answer old packet before after = go before.state
  where
    go : (state : LineState) → PaysIn state answer old packet before after → after.line ≡ before.line
    go line_is.Down paid = ap (λ (calls : XotCalls). calls.line) paid.same
    go line_is.Restarting paid = ap (λ (calls : XotCalls). calls.line) paid.same
    go line_is.ToRestart paid = ap (λ (calls : XotCalls). calls.line) paid.changed_to
    go line_is.ToConfirm paid = ap (λ (calls : XotCalls). calls.line) paid.changed_to
    go line_is.Ready paid = paid.line
