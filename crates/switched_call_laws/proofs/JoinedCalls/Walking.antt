-- Steps, one list after the other: the lines, the books and the joined calls that they lead to.
use Rattle.std.specs.Prelude.{◌≡◌, List, [], ◌∷◌, ◌++◌, is_some}
use Rattle.std.proofs.Common.{refl, sym, ap, subst, ◌∙◌, append_assoc, append-nil}
use Rattle.packet_layer.specs.Layer.{Layer}
use Rattle.packet_laws.specs.Readable.{Every}
use Rattle.switch_joins.specs.declared.channels.SwitchChannel.{SwitchChannel}
use Rattle.switch_lines.specs.Lines.{SwitchLine}
use Rattle.switch_laws.specs.World.{World, IsWorld, Act, MayHappen, layers_of, shown_at, after_act, after_acts, world_after_all}
use Rattle.switch_laws.specs.Steps.{Step, lines_after, lines_after_all, acts_of, acts_of_all}
use Rattle.switch_laws.proofs.Places.{there_after}
use Rattle.switch_laws.proofs.Layers.{world_acts_all}
use Rattle.switched_call_laws.specs.SwitchRecords.Written.{Books, books_after_all, HaveRecords}
use Rattle.switched_call_laws.proofs.SwitchRecords.Acts.{acts_write}
use Rattle.switched_call_laws.proofs.SwitchRecords.Chains.{books_then}
use Rattle.switched_call_laws.proofs.SwitchRecords.Stepping.{step_layers}
use Rattle.switched_call_laws.specs.JoinedCalls.Calls.{JoinedCall, calls_of, books_by, books_by_all, calls_of_all}

-- the books after some steps are those after their acts
pub books_are : (steps : List Step) (ls : List SwitchLine) (bs : Books) → books_by_all steps ls bs ≡ books_after_all (acts_of_all steps ls) (layers_of ls) bs
books_are [] ls bs = refl
books_are (s ∷ more) ls bs =
    books_are more (lines_after s ls) (books_by s ls bs)
    ∙ (ap (λ (ys : List Layer). books_after_all (acts_of_all more (lines_after s ls)) ys (books_by s ls bs)) (step_layers s ls)
    ∙ sym (books_then (acts_of s ls) (acts_of_all more (lines_after s ls)) (layers_of ls) bs))

-- ---- what steps lead to

pub record Leads (steps : List Step) (ls : List SwitchLine) (bs : Books) (ms : List SwitchLine) (after : Books) (new : List JoinedCall) : Type 0 where
  pub lines : lines_after_all steps ls ≡ ms
  pub books : books_by_all steps ls bs ≡ after
  pub calls : calls_of_all steps ls bs ≡ new

pub leads_itself : (steps : List Step) (ls : List SwitchLine) (bs : Books) → Leads steps ls bs (lines_after_all steps ls) (books_by_all steps ls bs) (calls_of_all steps ls bs)
leads_itself steps ls bs = record { lines = refl; books = refl; calls = refl }

pub leads_first : (s : Step) (more : List Step) (ls : List SwitchLine) (bs : Books) (ms : List SwitchLine) (after : Books) (new : List JoinedCall)
    → Leads more (lines_after s ls) (books_by s ls bs) ms after new → Leads (s ∷ more) ls bs ms after (calls_of s ls bs ++ new)
leads_first s more ls bs ms after new l = record { lines = l.lines; books = l.books; calls = ap (λ (cs : List JoinedCall). calls_of s ls bs ++ cs) l.calls }

pub leads_then : (as_ more : List Step) (ls ms ks : List SwitchLine) (bs bs1 bs2 : Books) (c1 c2 : List JoinedCall) → Leads as_ ls bs ms bs1 c1 → Leads more ms bs1 ks bs2 c2
    → Leads (as_ ++ more) ls bs ks bs2 (c1 ++ c2)
leads_then [] more ls ms ks bs bs1 bs2 c1 c2 l m =
    subst (λ (cs : List JoinedCall). Leads more ls bs ks bs2 (cs ++ c2)) l.calls
    (subst (λ (xs : List SwitchLine). Leads more xs bs ks bs2 c2) (sym l.lines) (subst (λ (y : Books). Leads more ms y ks bs2 c2) (sym l.books) m))
leads_then (s ∷ as_) more ls ms ks bs bs1 bs2 c1 c2 l m =
    let rest : List JoinedCall = calls_of_all as_ (lines_after s ls) (books_by s ls bs) in
    let first : Leads as_ (lines_after s ls) (books_by s ls bs) ms bs1 rest = record { lines = l.lines; books = l.books; calls = refl } in
    let all = leads_first s (as_ ++ more) ls bs ks bs2 (rest ++ c2) (leads_then as_ more (lines_after s ls) ms ks (books_by s ls bs) bs1 bs2 rest c2 first m) in
    subst (λ (cs : List JoinedCall). Leads (s ∷ (as_ ++ more)) ls bs ks bs2 cs) (sym (append_assoc (calls_of s ls bs) rest c2) ∙ ap (λ (cs : List JoinedCall). cs ++ c2) l.calls) all

-- what holds of some calls before the steps and of these and the new ones after them
pub record Walked (Q : List SwitchLine → Books → List JoinedCall → Type 0) (steps : List Step) (ls : List SwitchLine) (bs : Books) (cs : List JoinedCall) (ms : List SwitchLine) : Type 0 where
  pub after : Books
  pub new : List JoinedCall
  pub leads : Leads steps ls bs ms after new
  pub holds : Q ms after (cs ++ new)

pub walked_then : (P Q : List SwitchLine → Books → List JoinedCall → Type 0) (as_ more : List Step) (ls ms ks : List SwitchLine) (bs : Books) (cs : List JoinedCall) → Walked P as_ ls bs cs ms
    → ((after : Books) (all : List JoinedCall) → P ms after all → Walked Q more ms after all ks) → Walked Q (as_ ++ more) ls bs cs ks
walked_then P Q as_ more ls ms ks bs cs a f =
    let b = f a.after (cs ++ a.new) a.holds in
    record {
      after = b.after;
      new = a.new ++ b.new;
      leads = leads_then as_ more ls ms ks bs a.after b.after a.new b.new a.leads b.leads;
      holds = subst (λ (all : List JoinedCall). Q ks b.after all) (append_assoc cs a.new b.new) b.holds;
    }

-- steps that join no call
pub walked_quiet : (Q : List SwitchLine → Books → List JoinedCall → Type 0) (steps : List Step) (ls : List SwitchLine) (bs : Books) (cs : List JoinedCall) (ms : List SwitchLine) → lines_after_all steps ls ≡ ms
    → calls_of_all steps ls bs ≡ [] → Q ms (books_by_all steps ls bs) cs → Walked Q steps ls bs cs ms
walked_quiet Q steps ls bs cs ms e none q = record {
  after = books_by_all steps ls bs;
  new = [];
  leads = record { lines = e; books = refl; calls = none };
  holds = subst (λ (all : List JoinedCall). Q ms (books_by_all steps ls bs) all) (sym (append-nil cs)) q;
}

-- ---- the legs beside

-- the present records are those of some legs
pub record Beside (ls : List SwitchLine) (bs : Books) : Type 0 where
  pub legs : World
  pub world : IsWorld (layers_of ls) legs
  pub records : HaveRecords (layers_of ls) legs bs

pub beside_acts : (acts : List Act) (ls ms : List SwitchLine) (bs : Books) → layers_of ms ≡ after_acts acts (layers_of ls) → Every MayHappen acts → Beside ls bs → Beside ms (books_after_all acts (layers_of ls) bs)
beside_acts acts ls ms bs e m b =
    let v : World = world_after_all acts (layers_of ls) b.legs in
    record {
      legs = v;
      world = subst (λ (ys : List Layer). IsWorld ys v) (sym e) (world_acts_all acts (layers_of ls) b.legs m b.world);
      records = subst (λ (ys : List Layer). HaveRecords ys v (books_after_all acts (layers_of ls) bs)) (sym e) (acts_write acts (layers_of ls) b.legs bs m b.world b.records);
    }

pub beside_step : (s : Step) (ls : List SwitchLine) (bs : Books) → Every MayHappen (acts_of s ls) → Beside ls bs → Beside (lines_after s ls) (books_by s ls bs)
beside_step s ls bs m b = beside_acts (acts_of s ls) ls (lines_after s ls) bs (step_layers s ls) m b

there_acts : (acts : List Act) (ys : List Layer) (x : SwitchChannel) → is_some (shown_at (after_acts acts ys) x) ≡ is_some (shown_at ys x)
there_acts [] ys x = refl
there_acts (a ∷ more) ys x = there_acts more (after_act a ys) x ∙ there_after a ys x

pub there_step : (s : Step) (ls : List SwitchLine) (x : SwitchChannel) → is_some (shown_at (layers_of (lines_after s ls)) x) ≡ is_some (shown_at (layers_of ls) x)
there_step s ls x = ap (λ (ys : List Layer). is_some (shown_at ys x)) (step_layers s ls) ∙ there_acts (acts_of s ls) (layers_of ls) x

pub there_steps : (steps : List Step) (ls : List SwitchLine) (x : SwitchChannel) → is_some (shown_at (layers_of (lines_after_all steps ls)) x) ≡ is_some (shown_at (layers_of ls) x)
there_steps [] ls x = refl
there_steps (s ∷ more) ls x = there_steps more (lines_after s ls) x ∙ there_step s ls x
