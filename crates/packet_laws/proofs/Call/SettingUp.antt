-- The set-up of a call keeps the two ends in one of the pairs of stages, and what holds in the call.
use Rattle.std.proofs.Common.{◌≡◌, Bool, true, false, not, ◌&&◌, ◌||◌, List, [], ◌∷◌, ◌++◌, Option, Some, None, is_some, refl, sym, ap, subst, ◌∙◌, append-nil, true≢false}
use Rattle.link_timers.specs.declared.role.Role.{Role}
use Rattle.link_timers.specs.declared.role.Role.TheVariants.{Dte, Dce}
use Rattle.link_timers.specs.Role.{other_of}
use Rattle.data_transfer.specs.Packets.{CallParts, Body}
use Rattle.data_transfer.specs.Packets.Body.{Call, Accepted}
use Rattle.packet_laws.proofs.Handshakes.Handshake.{Two, Did, said, does, turned_two}
use Rattle.packet_laws.proofs.Call.SetUp.{Stage, Use, Sort, sort, places, accepts_call, in_call, use_hears, use_ok, Pair, Passes, Path, Leads, kept_flow, flows, Idle, UseInv, SaysFlow, IsCalled, AllCalled, Answerer, Places, answers}
use Rattle.packet_laws.proofs.Call.SetUp.Stage.{Free, Placed, Waiting, Collided, Open}
use Rattle.packet_laws.proofs.Call.SetUp.Sort.{Calling, Accepting, Flowing}

-- ---- where tokens lead

leads_refl : (r : Role) (s : Stage) → Leads r s s
leads_refl r Free = tt
leads_refl r Placed = tt
leads_refl r Waiting = tt
leads_refl r Collided = tt
leads_refl r (Open m) = refl

leads_waiting : (r : Role) (z : Stage) → Leads r Waiting z → Leads r Free z
leads_waiting r Waiting h = tt
leads_waiting r _ h = absurd h

leads_collided : (r : Role) (z : Stage) → Leads r Collided z → Leads r Placed z
leads_collided r Collided h = tt
leads_collided r (Open m) h = h
leads_collided r _ h = absurd h

leads_open_placed : (r : Role) (z : Stage) → Leads r (Open true) z → Leads r Placed z
leads_open_placed r (Open m) h = sym h
leads_open_placed r _ h = absurd h

leads_open_collided : (r : Role) (z : Stage) → Leads r (Open true) z → Leads r Collided z
leads_open_collided r (Open m) h = sym h
leads_open_collided r _ h = absurd h

passes_map : (r : Role) (k : Sort) (s : Stage) (rest rest' : Stage → Type 0) → ((z : Stage) → ((y : Stage) → Leads r z y → Leads r s y) → rest z → rest' z) → Passes r k s rest → Passes r k s rest'
passes_map r Calling Free rest rest' f h = f Waiting (λ y l. leads_waiting r y l) h
passes_map r Calling Placed rest rest' f h = f Collided (λ y l. leads_collided r y l) h
passes_map r Accepting Placed rest rest' f h = f (Open true) (λ y l. leads_open_placed r y l) h
passes_map Dte Accepting Collided rest rest' f h = f (Open true) (λ y l. leads_open_collided Dte y l) h
passes_map r Flowing (Open m) rest rest' f h = f (Open m) (λ y l. l) h
passes_map r k s rest rest' f h = absurd h

path_push : (r : Role) (x x' : Stage) (ts suffix : List Body) (s : Stage) → ((z : Stage) → Leads r s z → Pair r x z → Path r x' z suffix) → Path r x s ts → Path r x' s (ts ++ suffix)
path_push r x x' [] suffix s f h = f s (leads_refl r s) h
path_push r x x' (t ∷ ts) suffix s f h = passes_map r (sort t) s (λ z. Path r x z ts) (λ z. Path r x' z (ts ++ suffix)) (λ z back h'. path_push r x x' ts suffix z (λ y l p. f y (back y l) p) h') h

path_map : (r : Role) (x x' : Stage) (ts : List Body) (s : Stage) → ((z : Stage) → Leads r s z → Pair r x z → Pair r x' z) → Path r x s ts → Path r x' s ts
path_map r x x' ts s f h = subst (λ (l : List Body). Path r x' s l) (append-nil ts) (path_push r x x' ts [] s f h)

-- ---- what the walker does by itself

never_waiting : (r : Role) (k : Sort) (rest : Stage → Type 0) → Passes r k Waiting rest → ⊥
never_waiting r Calling rest h = h
never_waiting Dte Accepting rest h = h
never_waiting Dce Accepting rest h = h
never_waiting r Flowing rest h = h

never_collided : (k : Sort) (rest : Stage → Type 0) → Passes Dce k Collided rest → ⊥
never_collided Calling rest h = h
never_collided Accepting rest h = h
never_collided Flowing rest h = h

pair_waiting_collided : (r : Role) (y : Stage) → Pair r y Waiting → Pair r y Collided
pair_waiting_collided r Placed h = tt
pair_waiting_collided r _ h = absurd h

waiting_collided : (r : Role) (y : Stage) (ts : List Body) → Path r y Waiting ts → Path r y Collided ts
waiting_collided r y [] h = pair_waiting_collided r y h
waiting_collided r y (t ∷ ts) h = absurd (never_waiting r (sort t) (λ s. Path r y s ts) h)

pair_place : (r : Role) (y : Stage) → Pair r y Free → Pair r y Placed
pair_place r Free h = tt
pair_place r _ h = absurd h

passes_place : (r : Role) (k : Sort) (y : Stage) (ts : List Body) → Passes r k Free (λ s. Path r y s ts) → Passes r k Placed (λ s. Path r y s ts)
passes_place r Calling y ts h = waiting_collided r y ts h
passes_place Dte Accepting y ts h = absurd h
passes_place Dce Accepting y ts h = absurd h
passes_place r Flowing y ts h = absurd h

path_place : (r : Role) (y : Stage) (ts : List Body) → Path r y Free ts → Path r y Placed ts
path_place r y [] h = pair_place r y h
path_place r y (t ∷ ts) h = passes_place r (sort t) y ts h

pair_accept : (r : Role) (y : Stage) → Pair r y Waiting → Pair r y (Open false)
pair_accept r Placed h = refl
pair_accept r _ h = absurd h

path_accept : (r : Role) (y : Stage) (ts : List Body) → Path r y Waiting ts → Path r y (Open false) ts
path_accept r y [] h = pair_accept r y h
path_accept r y (t ∷ ts) h = absurd (never_waiting r (sort t) (λ s. Path r y s ts) h)

pair_accept_collided : (y : Stage) → Pair Dce y Collided → Pair Dce y (Open false)
pair_accept_collided Placed h = refl
pair_accept_collided Collided h = (refl, refl)
pair_accept_collided _ h = absurd h

path_accept_collided : (y : Stage) (ts : List Body) → Path Dce y Collided ts → Path Dce y (Open false) ts
path_accept_collided y [] h = pair_accept_collided y h
path_accept_collided y (t ∷ ts) h = absurd (never_collided (sort t) (λ s. Path Dce y s ts) h)

-- ---- what a packet tells of the other end

abbrev IsPlaced : Stage → Type 0
IsPlaced Placed = Unit {0}
IsPlaced _ = ⊥

pair_placed : (r : Role) (y : Stage) → Pair r y Waiting → IsPlaced y
pair_placed r Placed h = tt
pair_placed r _ h = absurd h

from_waiting : (r : Role) (y : Stage) (ts : List Body) → Path r y Waiting ts → IsPlaced y
from_waiting r y [] h = pair_placed r y h
from_waiting r y (t ∷ ts) h = absurd (never_waiting r (sort t) (λ s. Path r y s ts) h)

abbrev IsTheirs : Stage → Type 0
IsTheirs (Open m) = m ≡ false
IsTheirs _ = ⊥

not_true : (m : Bool) → true ≡ not m → m ≡ false
not_true true e = absurd (true≢false e)
not_true false e = refl

pair_open : (r : Role) (y : Stage) → Pair r y (Open true) → IsTheirs y
pair_open r Placed h = absurd (true≢false h)
pair_open r Collided h = absurd (true≢false h.1)
pair_open r (Open m) h = not_true m h
pair_open r _ h = absurd h

passes_open : (r : Role) (m : Bool) (k : Sort) (y : Stage) (ts : List Body) → Passes r k (Open m) (λ s. Path r y s ts) → Path r y (Open m) ts
passes_open r m Flowing y ts h = h
passes_open Dte m Accepting y ts h = absurd h
passes_open Dce m Accepting y ts h = absurd h
passes_open r m Calling y ts h = absurd h

from_open : (r : Role) (y : Stage) (ts : List Body) → Path r y (Open true) ts → IsTheirs y
from_open r y [] h = pair_open r y h
from_open r y (t ∷ ts) h = from_open r y ts (passes_open r true (sort t) y ts h)

abbrev IsMine : Stage → Type 0
IsMine Placed = Unit {0}
IsMine Collided = Unit {0}
IsMine (Open m) = m ≡ true
IsMine _ = ⊥

not_false : (m : Bool) → false ≡ not m → m ≡ true
not_false true e = refl
not_false false e = absurd (true≢false (sym e))

pair_mine : (r : Role) (y : Stage) → Pair r y (Open false) → IsMine y
pair_mine r Placed h = tt
pair_mine r Collided h = tt
pair_mine r (Open m) h = not_false m h
pair_mine r _ h = absurd h

from_mine : (r : Role) (y : Stage) (ts : List Body) → Path r y (Open false) ts → IsMine y
from_mine r y [] h = pair_mine r y h
from_mine r y (t ∷ ts) h = from_mine r y ts (passes_open r false (sort t) y ts h)

-- of the ends of a call one accepted it, and the other one placed it
theirs_answers : (y : Stage) → IsTheirs y → answers y ≡ true
theirs_answers (Open m) h = ap (λ (b : Bool). not b) h
theirs_answers _ h = absurd h

mine_answers : (y : Stage) → IsMine y → answers y ≡ false
mine_answers Placed h = refl
mine_answers Collided h = refl
mine_answers (Open m) h = ap (λ (b : Bool). not b) h
mine_answers _ h = absurd h

mine_placed : (r : Role) (y : Stage) (p : Option CallParts) → IsMine y → Places r y p → is_some p ≡ true
mine_placed r Placed p h q = q
mine_placed r Collided p h q = q
mine_placed r (Open m) p h q = subst (λ (b : Bool). Places r (Open b) p) h q
mine_placed r _ p h q = absurd h

pub open_answered : (r : Role) (x y : Stage) (ts : List Body) → Path r y x ts → (m : Bool) → x ≡ Open m → (answers x || answers y) ≡ true
open_answered r x y ts h true e = answered_there y (theirs_answers y (from_open r y ts (subst (λ (s : Stage). Path r y s ts) e h)))
  where
    answered_there : (y : Stage) → answers y ≡ true → (answers x || answers y) ≡ true
    answered_there y a = ap (λ (s : Stage). answers s || answers y) e ∙ a
open_answered r x y ts h false e = ap (λ (s : Stage). answers s || answers y) e

answers_open : (x : Stage) → answers x ≡ true → x ≡ Open false
answers_open (Open true) h = absurd (true≢false (sym h))
answers_open (Open false) h = refl
answers_open _ h = absurd (true≢false (sym h))

mine_of : (r : Role) (x y : Stage) (ts : List Body) → Path r y x ts → answers x ≡ true → IsMine y
mine_of r x y ts h a = from_mine r y ts (subst (λ (s : Stage). Path r y s ts) (answers_open x a) h)

pub never_both : (r : Role) (x y : Stage) (ts : List Body) → Path r y x ts → (answers x && answers y) ≡ false
never_both r x y ts h = never_at (answers x) refl
  where
    never_at : (b : Bool) → answers x ≡ b → (b && answers y) ≡ false
    never_at true a = mine_answers y (mine_of r x y ts h a)
    never_at false a = refl

pub answered_placed : (r : Role) (x y : Stage) (p : Option CallParts) (ts : List Body) → Path r y x ts → Places (other_of r) y p → answers x ≡ true → is_some p ≡ true
answered_placed r x y p ts h q a = mine_placed (other_of r) y p (mine_of r x y ts h a) q

abbrev Called : Role → Stage → Type 0
Called r Placed = Unit {0}
Called r Collided = Unit {0}
Called r (Open m) = (m ≡ false) × (r ≡ Dte)
Called r _ = ⊥

called_open : (y : Stage) → IsTheirs y → Called Dte y
called_open (Open m) h = (h, refl)
called_open _ h = absurd h

pair_called : (r : Role) (y : Stage) → Pair r y Collided → Called r y
pair_called r Placed h = tt
pair_called r Collided h = tt
pair_called r _ h = absurd h

passes_called : (r : Role) (k : Sort) (y : Stage) (ts : List Body) → Passes r k Collided (λ s. Path r y s ts) → Called r y
passes_called Dte Accepting y ts h = called_open y (from_open Dte y ts h)
passes_called Dce Accepting y ts h = absurd h
passes_called r Calling y ts h = absurd h
passes_called r Flowing y ts h = absurd h

from_collided : (r : Role) (y : Stage) (ts : List Body) → Path r y Collided ts → Called r y
from_collided r y [] h = pair_called r y h
from_collided r y (t ∷ ts) h = passes_called r (sort t) y ts h

-- the sender's new stage, met by where its partner's walk ends
free_waiting : (r : Role) (y z : Stage) → IsPlaced y → Leads r y z → Pair r Free z → Pair r Waiting z
free_waiting r Placed Placed p l h = tt
free_waiting r Placed Collided p l h = absurd h
free_waiting r Placed (Open m) p l h = absurd h
free_waiting r Placed _ p l h = absurd l
free_waiting r _ z p l h = absurd p

placed_collided : (r : Role) (y z : Stage) → Called (other_of r) y → Leads r y z → Pair r Placed z → Pair r Collided z
placed_collided r Placed Collided p l h = tt
placed_collided r Placed (Open m) p l h = absurd (true≢false (sym l ∙ h))
placed_collided r Placed Placed p l h = absurd h
placed_collided r Placed _ p l h = absurd l
placed_collided r Collided Collided p l h = tt
placed_collided r Collided (Open m) p l h = absurd (true≢false (sym l ∙ h))
placed_collided r Collided _ p l h = absurd l
placed_collided r (Open n) (Open m) p l h = (is_dce r p.1, h)
  where
    is_dce : (r : Role) → other_of r ≡ Dte → r ≡ Dce
    is_dce Dte e = cc
    is_dce Dce e = refl
placed_collided r (Open n) _ p l h = absurd l
placed_collided r _ z p l h = absurd p

placed_open : (r : Role) (y z : Stage) → IsTheirs y → Leads r y z → Pair r Placed z → Pair r (Open true) z
placed_open r (Open n) (Open m) p l h = h
placed_open r (Open n) _ p l h = absurd l
placed_open r _ z p l h = absurd p

collided_open : (r : Role) (y z : Stage) → IsTheirs y → Leads r y z → Pair r Collided z → Pair r (Open true) z
collided_open r (Open n) (Open m) p l h = h.1
collided_open r (Open n) _ p l h = absurd l
collided_open r _ z p l h = absurd p

-- ---- what the sender says

push_call : (r : Role) (parts : CallParts) (z : Stage) → Pair r Free z → Path r Placed z (Call parts ∷ [])
push_call r parts Free h = tt
push_call r parts Placed h = tt
push_call r parts _ h = absurd h

push_accepted : (r : Role) (z : Stage) → Pair r Waiting z → Path r (Open false) z (Accepted ∷ [])
push_accepted r Placed h = refl
push_accepted r _ h = absurd h

push_accepted_collided : (z : Stage) → Pair Dte Collided z → Path Dte (Open false) z (Accepted ∷ [])
push_accepted_collided Collided h = refl
push_accepted_collided (Open m) h = absurd (dte_dce h.0)
  where
    dte_dce : Dte ≡ Dce → ⊥
    dte_dce e = cc
push_accepted_collided _ h = absurd h

push_flow : (r : Role) (m : Bool) (b : Body) → sort b ≡ Flowing → (z : Stage) → Pair r (Open m) z → Path r (Open m) z (b ∷ [])
push_flow r m b e (Open n) h = subst (λ (k : Sort). Passes r k (Open n) (λ s. Pair r (Open m) s)) (sym e) h
push_flow r m b e _ h = absurd h

-- ---- the flow of the call

kept_append : (k : Sort) (x : Body) (xs ys zs : List Body) → zs ≡ xs ++ ys → kept_flow k x zs ≡ kept_flow k x xs ++ ys
kept_append Calling x xs ys zs e = e
kept_append Accepting x xs ys zs e = e
kept_append Flowing x xs ys zs e = ap (λ (l : List Body). x ∷ l) e

flows_append : (xs ys : List Body) → flows (xs ++ ys) ≡ flows xs ++ flows ys
flows_append [] ys = refl
flows_append (x ∷ xs) ys = kept_append (sort x) x (flows xs) (flows ys) (flows (xs ++ ys)) (flows_append xs ys)

flows_call : (xs : List Body) (parts : CallParts) → flows (xs ++ Call parts ∷ []) ≡ flows xs
flows_call xs parts = flows_append xs (Call parts ∷ []) ∙ append-nil (flows xs)

flows_accepted : (xs : List Body) → flows (xs ++ Accepted ∷ []) ≡ flows xs
flows_accepted xs = flows_append xs (Accepted ∷ []) ∙ append-nil (flows xs)

flows_said : (o : Option Body) → SaysFlow o → (xs : List Body) → flows (said o xs) ≡ said o (flows xs)
flows_said None e xs = refl
flows_said (Some b) e xs = flows_append xs (b ∷ []) ∙ ap (λ (k : Sort). flows xs ++ kept_flow k b []) e

-- ---- the events

called_append : (p : Option CallParts) (xs : List Body) (b : Body) → AllCalled p xs → IsCalled b p → AllCalled p (xs ++ b ∷ [])
called_append p [] b a h = (h, tt)
called_append p (x ∷ xs) b a h = (a.0, called_append p xs b a.1 h)

flow_called : (b : Body) (p : Option CallParts) → sort b ≡ Flowing → IsCalled b p
flow_called (Call parts) p e = absurd cc
flow_called _ p e = tt

said_called : (o : Option Body) (p : Option CallParts) (xs : List Body) → SaysFlow o → AllCalled p xs → AllCalled p (said o xs)
said_called None p xs f a = a
said_called (Some b) p xs f a = called_append p xs b a (flow_called b p f)

-- an end in p1 has no Call on the way
none_called : (b : Body) (p q : Option CallParts) → p ≡ None → IsCalled b p → IsCalled b q
none_called (Call parts) p q e h = absurd (none_some (sym e ∙ h))
  where
    none_some : None ≡ Some parts → ⊥
    none_some e = cc
none_called _ p q e h = tt

all_none : (xs : List Body) (p q : Option CallParts) → p ≡ None → AllCalled p xs → AllCalled q xs
all_none [] p q e a = tt
all_none (x ∷ xs) p q e a = (none_called x p q e a.0, all_none xs p q e a.1)

pub setup_places : (I : Type 0) (start : I) (Good : Two I → Type 0) (role : Role) (parts : CallParts) (w : Two (Use I)) → w.me.stage ≡ Free → UseInv I start Good role w → UseInv I start Good role (does w (places parts w.me))
setup_places I start Good role parts w free i =
    let fore : Path (other_of role) Free w.you.stage w.out = subst (λ (s : Stage). Path (other_of role) s w.you.stage w.out) free i.fore in
    let aft : Path role w.you.stage Free w.back = subst (λ (s : Stage). Path role w.you.stage s w.back) free i.aft in
    record {
      fore = path_push (other_of role) Free Placed w.out (Call parts ∷ []) w.you.stage (λ z l p. push_call (other_of role) parts z p) fore;
      aft = path_place role w.you.stage w.back aft;
      idle_me = subst (λ (s : Stage). Idle start s w.me.call) free i.idle_me;
      idle_you = i.idle_you;
      calls_me = called_append (Some parts) w.out (Call parts) (all_none w.out w.me.placed (Some parts) (subst (λ (s : Stage). Places role s w.me.placed) free i.placed_me) i.calls_me) refl;
      calls_you = i.calls_you;
      placed_me = refl;
      placed_you = i.placed_you;
      call = subst (λ (o : List Body). Good (record { me = w.me.call; you = w.you.call; out = o; back = flows w.back })) (sym (flows_call w.out parts)) i.call;
    }

-- an end accepts the other's call; a DCE does so also in a collision
abbrev pub Acceptable : Role → Stage → Type 0
Acceptable r Waiting = Unit {0}
Acceptable Dce Collided = Unit {0}
Acceptable r _ = ⊥

accept_fore : (role : Role) (s y : Stage) (out : List Body) → Acceptable role s → Path (other_of role) s y out → Path (other_of role) (Open false) y (out ++ Accepted ∷ [])
accept_fore role Waiting y out a h = path_push (other_of role) Waiting (Open false) out (Accepted ∷ []) y (λ z l p. push_accepted (other_of role) z p) h
accept_fore Dce Collided y out a h = path_push Dte Collided (Open false) out (Accepted ∷ []) y (λ z l p. push_accepted_collided z p) h
accept_fore role _ y out a h = absurd a

accept_aft : (role : Role) (s y : Stage) (back : List Body) → Acceptable role s → Path role y s back → Path role y (Open false) back
accept_aft role Waiting y back a h = path_accept role y back h
accept_aft Dce Collided y back a h = path_accept_collided y back h
accept_aft role _ y back a h = absurd a

accept_idle : (I : Type 0) (start c : I) (role : Role) (s : Stage) → Acceptable role s → Idle start s c → c ≡ start
accept_idle I start c role Waiting a h = h
accept_idle I start c Dce Collided a h = h
accept_idle I start c role _ a h = absurd a

answerer : (r : Role) (p : Option CallParts) → p ≡ None → Answerer r p
answerer Dte p e = e
answerer Dce p e = tt

accept_placed : (role : Role) (s : Stage) (p : Option CallParts) → Acceptable role s → Places role s p → Places role (Open false) p
accept_placed role Waiting p a h = answerer role p h
accept_placed Dce Collided p a h = tt
accept_placed role _ p a h = absurd a

pub setup_accepts : (I : Type 0) (start : I) (Good : Two I → Type 0) (role : Role) (w : Two (Use I)) → Acceptable role w.me.stage → UseInv I start Good role w → UseInv I start Good role (does w (accepts_call start w.me))
setup_accepts I start Good role w a i = record {
  fore = accept_fore role w.me.stage w.you.stage w.out a i.fore;
  aft = accept_aft role w.me.stage w.you.stage w.back a i.aft;
  idle_me = tt;
  idle_you = i.idle_you;
  calls_me = called_append w.me.placed w.out Accepted i.calls_me tt;
  calls_you = i.calls_you;
  placed_me = accept_placed role w.me.stage w.me.placed a i.placed_me;
  placed_you = i.placed_you;
  call = subst (λ (o : List Body). Good (record { me = start; you = w.you.call; out = o; back = flows w.back })) (sym (flows_accepted w.out))
      (subst (λ (c : I). Good (record { me = c; you = w.you.call; out = flows w.out; back = flows w.back })) (accept_idle I start w.me.call role w.me.stage a i.idle_me) i.call);
}

flow_fore : (r : Role) (m : Bool) (y : Stage) (o : Option Body) → SaysFlow o → (out : List Body) → Path r (Open m) y out → Path r (Open m) y (said o out)
flow_fore r m y None e out h = h
flow_fore r m y (Some b) e out h = path_push r (Open m) (Open m) out (b ∷ []) y (λ z l p. push_flow r m b e z p) h

pub setup_acts : (I : Type 0) (start : I) (Good : Two I → Type 0) (role : Role) (m : Bool) (d : Did I) (w : Two (Use I)) → w.me.stage ≡ Open m → SaysFlow d.says
    → ((z : I) (o l : List Body) → Good (record { me = w.me.call; you = z; out = o; back = l }) → Good (record { me = d.end_; you = z; out = said d.says o; back = l }))
    → UseInv I start Good role w → UseInv I start Good role (does w (in_call d w.me))
setup_acts I start Good role m d w is_open is_flowing keeps i = record {
  fore = subst (λ (s : Stage). Path (other_of role) s w.you.stage (said d.says w.out)) (sym is_open)
      (flow_fore (other_of role) m w.you.stage d.says is_flowing w.out (subst (λ (s : Stage). Path (other_of role) s w.you.stage w.out) is_open i.fore));
  aft = i.aft;
  idle_me = subst (λ (s : Stage). Idle start s d.end_) (sym is_open) tt;
  idle_you = i.idle_you;
  calls_me = said_called d.says w.me.placed w.out is_flowing i.calls_me;
  calls_you = i.calls_you;
  placed_me = i.placed_me;
  placed_you = i.placed_you;
  call = subst (λ (o : List Body). Good (record { me = d.end_; you = w.you.call; out = o; back = flows w.back })) (sym (flows_said d.says is_flowing w.out)) (keeps w.you.call (flows w.out) (flows w.back) i.call);
}

hear_use : (I : Type 0) (start : I) (Good : Two I → Type 0) (role : Role)
    → (hear : I → Body → Did I) (ok : I → Body → Type 0) → ((e : I) (b : Body) → SaysFlow (hear e b).says)
    → ((v : Two I) (t : Body) (ts : List Body) → Good (record v { back = t ∷ ts }) → ok v.me t × Good (does (record v { back = ts }) (hear v.me t)))
    → (k : Sort) (s : Stage) (x y : Use I) (out : List Body) (t : Body) (ts : List Body) → sort t ≡ k
    → UseInv I start Good role (record { me = record x { stage = s }; you = y; out = out; back = t ∷ ts })
    → use_ok ok role k s x t × UseInv I start Good role (does (record { me = record x { stage = s }; you = y; out = out; back = ts }) (use_hears role start hear k s (record x { stage = s }) t))
hear_use I start Good role hear ok is_flowing hears Calling Free x y out t ts e i =
    let p : Path role y.stage Waiting ts = subst (λ (k : Sort). Passes role k Free (λ s. Path role y.stage s ts)) e i.aft in (
      tt,
      record {
        fore = path_map (other_of role) Free Waiting out y.stage (λ z l h. free_waiting (other_of role) y.stage z (from_waiting role y.stage ts p) l h) i.fore;
        aft = p;
        idle_me = i.idle_me;
        idle_you = i.idle_you;
        calls_me = i.calls_me;
        calls_you = i.calls_you.1;
        placed_me = i.placed_me;
        placed_you = i.placed_you;
        call = subst (λ (k : Sort). Good (record { me = x.call; you = y.call; out = flows out; back = kept_flow k t (flows ts) })) e i.call;
      },
    )
hear_use I start Good role hear ok is_flowing hears Calling Placed x y out t ts e i =
    let p : Path role y.stage Collided ts = subst (λ (k : Sort). Passes role k Placed (λ s. Path role y.stage s ts)) e i.aft in (
      tt,
      record {
        fore = path_map (other_of role) Placed Collided out y.stage (λ z l h. placed_collided (other_of role) y.stage z (subst (λ (r : Role). Called r y.stage) (sym (twice role)) (from_collided role y.stage ts p)) l h) i.fore;
        aft = p;
        idle_me = i.idle_me;
        idle_you = i.idle_you;
        calls_me = i.calls_me;
        calls_you = i.calls_you.1;
        placed_me = i.placed_me;
        placed_you = i.placed_you;
        call = subst (λ (k : Sort). Good (record { me = x.call; you = y.call; out = flows out; back = kept_flow k t (flows ts) })) e i.call;
      },
    )
  where
    twice : (r : Role) → other_of (other_of r) ≡ r
    twice Dte = refl
    twice Dce = refl
hear_use I start Good role hear ok is_flowing hears Accepting Placed x y out t ts e i =
    let p : Path role y.stage (Open true) ts = subst (λ (k : Sort). Passes role k Placed (λ s. Path role y.stage s ts)) e i.aft in (
      tt,
      record {
        fore = path_map (other_of role) Placed (Open true) out y.stage (λ z l h. placed_open (other_of role) y.stage z (from_open role y.stage ts p) l h) i.fore;
        aft = p;
        idle_me = tt;
        idle_you = i.idle_you;
        calls_me = i.calls_me;
        calls_you = i.calls_you.1;
        placed_me = i.placed_me;
        placed_you = i.placed_you;
        call = subst (λ (c : I). Good (record { me = c; you = y.call; out = flows out; back = flows ts })) i.idle_me
            (subst (λ (k : Sort). Good (record { me = x.call; you = y.call; out = flows out; back = kept_flow k t (flows ts) })) e i.call);
      },
    )
hear_use I start Good Dte hear ok is_flowing hears Accepting Collided x y out t ts e i =
    let p : Path Dte y.stage (Open true) ts = subst (λ (k : Sort). Passes Dte k Collided (λ s. Path Dte y.stage s ts)) e i.aft in (
      tt,
      record {
        fore = path_map Dce Collided (Open true) out y.stage (λ z l h. collided_open Dce y.stage z (from_open Dte y.stage ts p) l h) i.fore;
        aft = p;
        idle_me = tt;
        idle_you = i.idle_you;
        calls_me = i.calls_me;
        calls_you = i.calls_you.1;
        placed_me = i.placed_me;
        placed_you = i.placed_you;
        call = subst (λ (c : I). Good (record { me = c; you = y.call; out = flows out; back = flows ts })) i.idle_me
            (subst (λ (k : Sort). Good (record { me = x.call; you = y.call; out = flows out; back = kept_flow k t (flows ts) })) e i.call);
      },
    )
hear_use I start Good role hear ok is_flowing hears Flowing (Open m) x y out t ts e i =
    let p : Path role y.stage (Open m) ts = subst (λ (k : Sort). Passes role k (Open m) (λ s. Path role y.stage s ts)) e i.aft in
    let g : Good (record { me = x.call; you = y.call; out = flows out; back = t ∷ flows ts }) = subst (λ (k : Sort). Good (record { me = x.call; you = y.call; out = flows out; back = kept_flow k t (flows ts) })) e i.call in
    let h = hears (record { me = x.call; you = y.call; out = flows out; back = [] }) t (flows ts) g in (
      h.0,
      record {
        fore = flow_fore (other_of role) m y.stage (hear x.call t).says (is_flowing x.call t) out i.fore;
        aft = p;
        idle_me = tt;
        idle_you = i.idle_you;
        calls_me = said_called (hear x.call t).says x.placed out (is_flowing x.call t) i.calls_me;
        calls_you = i.calls_you.1;
        placed_me = i.placed_me;
        placed_you = i.placed_you;
        call = subst (λ (o : List Body). Good (record { me = (hear x.call t).end_; you = y.call; out = o; back = flows ts })) (sym (flows_said (hear x.call t).says (is_flowing x.call t) out)) h.1;
      },
    )
hear_use I start Good role hear ok is_flowing hears k s x y out t ts e i = absurd (subst (λ (k : Sort). Passes role k s (λ z. Path role y.stage z ts)) e i.aft)

pub setup_hears : (I : Type 0) (start : I) (Good : Two I → Type 0) (role : Role)
    → (hear : I → Body → Did I) (ok : I → Body → Type 0) → ((e : I) (b : Body) → SaysFlow (hear e b).says)
    → ((v : Two I) (t : Body) (ts : List Body) → Good (record v { back = t ∷ ts }) → ok v.me t × Good (does (record v { back = ts }) (hear v.me t)))
    → (w : Two (Use I)) (t : Body) (ts : List Body) → UseInv I start Good role (record w { back = t ∷ ts })
    → use_ok ok role (sort t) w.me.stage w.me t × UseInv I start Good role (does (record w { back = ts }) (use_hears role start hear (sort t) w.me.stage w.me t))
setup_hears I start Good role hear ok is_flowing hears w t ts i = hear_use I start Good role hear ok is_flowing hears (sort t) w.me.stage w.me w.you w.out t ts refl i

pub setup_turned : (I : Type 0) (start : I) (Good Back : Two I → Type 0) → ((v : Two I) → Good v → Back (turned_two v)) → (role : Role) (w : Two (Use I)) → UseInv I start Good role w → UseInv I start Back (other_of role) (turned_two w)
setup_turned I start Good Back turn Dte w i = record { fore = i.aft; aft = i.fore; idle_me = i.idle_you; idle_you = i.idle_me; calls_me = i.calls_you; calls_you = i.calls_me; placed_me = i.placed_you; placed_you = i.placed_me; call = turn (record { me = w.me.call; you = w.you.call; out = flows w.out; back = flows w.back }) i.call }
setup_turned I start Good Back turn Dce w i = record { fore = i.aft; aft = i.fore; idle_me = i.idle_you; idle_you = i.idle_me; calls_me = i.calls_you; calls_you = i.calls_me; placed_me = i.placed_you; placed_you = i.placed_me; call = turn (record { me = w.me.call; you = w.you.call; out = flows w.out; back = flows w.back }) i.call }
