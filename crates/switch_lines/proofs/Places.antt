-- Joins by place, after what is asked and kept elsewhere and there.
use Rattle.std.proofs.Common.{◌≡◌, ℕ, zero, suc, ◌⊎◌, inl, inr, false, List, [], ◌∷◌, length, set, refl, sym, ap, subst, ◌∙◌, Option, Some, None}
use Rattle.std.specs.Prelude.{slice_get}
use Rattle.std.proofs.lemmas.Option.{none-some}
use Rattle.data_transfer.specs.declared.flow.Flow.{Flow}
use Rattle.packet_channel.specs.Channel.{Channel, Request, requested}
use Rattle.packet_layer.specs.Layer.{Layer, channel_of, on_found, request}
use Rattle.packet_channel.specs.Channel.Request.{Releasing}
use Rattle.data_transfer.specs.Packets.{CallParts}
use Rattle.packet_end.specs.PacketEnd.{asked, called}
use Rattle.switch_joins.specs.Direction.{Direction, releasable, released}
use Rattle.switch_joins.proofs.Apart.{apart_by}
use Rattle.switch_lines.specs.Lines.{SwitchChannel, Joined, SwitchLine, same_place, changed, flat, nth_joined, joined_on, joined_at, with_nth_joined, with_joined, ask, ask_all, size_of_line, sizes_at}
use Rattle.switch_lines.specs.Relay.{with_kept, freed}
use Rattle.joined_line.specs.OfLine.{kept_on, released_if, freed_on}
use Rattle.switch_lines.specs.ByPlace.{kept_at, freed_at}
use Rattle.switch_joins.specs.Joins.{joined_with}
use Rattle.switch_joins.proofs.Slots.{nth_apart}
use Rattle.switch_lines.specs.Switch.{place_call}
use Rattle.switch_lines.proofs.Changing.{length_changed}

-- ---- one element changed

pub fused : {X : Type 0} (f g : X → X) (n : ℕ) (xs : List X) → changed n f (changed n g xs) ≡ changed n (λ x. f (g x)) xs
fused f g n [] = refl
fused f g zero (x ∷ xs) = refl
fused f g (suc n) (x ∷ xs) = ap (λ ys. x ∷ ys) (fused f g n xs)

pub same_there : {X : Type 0} (f g : X → X) (n : ℕ) (xs : List X) → ((x : X) → slice_get xs n ≡ Some x → f x ≡ g x) → changed n f xs ≡ changed n g xs
same_there f g n [] h = refl
same_there f g zero (x ∷ xs) h = ap (λ y. y ∷ xs) (h x refl)
same_there f g (suc n) (x ∷ xs) h = ap (λ ys. x ∷ ys) (same_there f g n xs h)

pub again : {X : Type 0} (f g h : X → X) (n : ℕ) (xs : List X) → ((x : X) → f (g (h x)) ≡ f (g x))
    → changed n f (changed n g (changed n h xs)) ≡ changed n f (changed n g xs)
again f g h n xs same =
    ap (λ ys. changed n f ys) (fused g h n xs) ∙ fused f (λ x. g (h x)) n xs ∙ same_there (λ x. f (g (h x))) (λ x. f (g x)) n xs (λ x at. same x)
    ∙ sym (fused f g n xs)

set_again : {X : Type 0} (xs : List X) (i : ℕ) (x y : X) → set (set xs i x) i y ≡ set xs i y
set_again [] i x y = refl
set_again (z ∷ zs) zero x y = refl
set_again (z ∷ zs) (suc i) x y = ap (λ ys. z ∷ ys) (set_again zs i x y)

joined_again : (js : List (Option Joined)) (c : ℕ) (o r : Option Joined) → with_nth_joined (with_nth_joined js c o) c r ≡ with_nth_joined js c r
joined_again js zero o r = refl
joined_again js (suc i) o r = set_again js i o r

-- ---- as many lines

pub joined_length : (p : SwitchChannel) (o : Option Joined) (ls : List SwitchLine) → length (with_joined p o ls) ≡ length ls
joined_length p o ls = length_changed p.line (λ l. record l { joined = with_nth_joined l.joined p.channel o }) ls

pub kept_length : (p : SwitchChannel) (f : Direction → Direction) (ls : List SwitchLine) → length (kept_at p f ls) ≡ length ls
kept_length p f ls = length_changed p.line (kept_on p.channel f) ls

pub asked_length : (p : SwitchChannel) (q : Request) (ls : List SwitchLine) → length (ask p q ls) ≡ length ls
asked_length p q ls = length_changed p.line (λ l. record l { end = asked l.end p.channel q }) ls

pub placed_length : (n : ℕ) (parts : CallParts) (ls : List SwitchLine) → length (place_call n parts ls) ≡ length ls
placed_length n parts ls = length_changed n (λ l. record l { end = called l.end parts }) ls

-- ---- joins

pub joined_kept : (n m c : ℕ) (f : SwitchLine → SwitchLine) (ls : List SwitchLine) → ((l : SwitchLine) → (f l).joined ≡ l.joined)
    → joined_on (slice_get (changed n f ls) m) c ≡ joined_on (slice_get ls m) c
joined_kept n m c f [] same = refl
joined_kept zero zero c f (l ∷ ls) same = ap (λ js. nth_joined js c) (same l)
joined_kept zero (suc m) c f (l ∷ ls) same = refl
joined_kept (suc n) zero c f (l ∷ ls) same = refl
joined_kept (suc n) (suc m) c f (l ∷ ls) same = joined_kept n m c f ls same

pub joined_after : (n : ℕ) (f : SwitchLine → SwitchLine) (x : SwitchChannel) (ls : List SwitchLine) → ((l : SwitchLine) → (f l).joined ≡ l.joined)
    → joined_at (changed n f ls) x ≡ joined_at ls x
joined_after n f x ls same = joined_kept n x.line x.channel f ls same

pub joined_asked : (p : SwitchChannel) (q : Request) (x : SwitchChannel) (ls : List SwitchLine) → joined_at (ask p q ls) x ≡ joined_at ls x
joined_asked p q x ls = joined_after p.line _ x ls (λ l. refl)

pub joined_asks : (p : SwitchChannel) (qs : List Request) (x : SwitchChannel) (ls : List SwitchLine) → joined_at (ask_all p qs ls) x ≡ joined_at ls x
joined_asks p [] x ls = refl
joined_asks p (q ∷ qs) x ls = joined_asks p qs x (ask p q ls) ∙ joined_asked p q x ls

slot_here : (js : List (Option Joined)) (i : ℕ) (j : Joined) (o : Option Joined) → flat (slice_get js i) ≡ Some j → flat (slice_get (set js i o) i) ≡ o
slot_here [] i j o e = absurd (none-some j e)
slot_here (x ∷ xs) zero j o e = refl
slot_here (x ∷ xs) (suc i) j o e = slot_here xs i j o e

nth_here : (js : List (Option Joined)) (c : ℕ) (j : Joined) (o : Option Joined) → nth_joined js c ≡ Some j → nth_joined (with_nth_joined js c o) c ≡ o
nth_here js zero j o e = absurd (none-some j e)
nth_here js (suc i) j o e = slot_here js i j o e

line_here : (n c : ℕ) (j : Joined) (o : Option Joined) (ls : List SwitchLine) → joined_on (slice_get ls n) c ≡ Some j
    → joined_on (slice_get (changed n (λ l. record l { joined = with_nth_joined l.joined c o }) ls) n) c ≡ o
line_here n c j o [] e = absurd (none-some j e)
line_here zero c j o (l ∷ ls) e = nth_here l.joined c j o e
line_here (suc n) c j o (l ∷ ls) e = line_here n c j o ls e

pub joined_here : (p : SwitchChannel) (j : Joined) (o : Option Joined) (ls : List SwitchLine) → joined_at ls p ≡ Some j → joined_at (with_joined p o ls) p ≡ o
joined_here p j o ls e = line_here p.line p.channel j o ls e

-- what the line of a joined channel has there
joined_line : (ls : List SwitchLine) (p : SwitchChannel) (j : Joined) (l : SwitchLine) → joined_at ls p ≡ Some j → slice_get ls p.line ≡ Some l
    → nth_joined l.joined p.channel ≡ Some j
joined_line ls p j l e at = ap (λ (o : Option SwitchLine). joined_on o p.channel) (sym at) ∙ e

-- ---- directions

pub kept_joined : (f : Direction → Direction) (p : SwitchChannel) (j : Joined) (ls : List SwitchLine) → joined_at ls p ≡ Some j
    → kept_at p f ls ≡ with_kept p j (f j.kept) ls
kept_joined f p j ls e =
    same_there (kept_on p.channel f) (λ l. record l { joined = with_nth_joined l.joined p.channel (Some (record j { kept = f j.kept })) }) p.line ls
    (λ l at. rw (joined_line ls p j l e at) refl)

pub freed_joined : (p : SwitchChannel) (j : Joined) (ls : List SwitchLine) → joined_at ls p ≡ Some j → freed_at p ls ≡ freed p j j.kept ls
freed_joined p j ls e =
    same_there (freed_on p.channel) _ p.line ls (λ l at. rw (joined_line ls p j l e at) refl)
    ∙ sym (fused (λ l. record l { joined = with_nth_joined l.joined p.channel (Some (record j { kept = released j.kept })) }) _ p.line ls)

-- what was kept before does not matter
pub freed_kept : (p : SwitchChannel) (j : Joined) (v : Direction) (ls : List SwitchLine) → freed p (record j { kept = v }) v (with_kept p j v ls) ≡ freed p j v ls
freed_kept p j v ls =
    again (λ l. record l { joined = with_nth_joined l.joined p.channel (Some (record j { kept = released v })) })
    (λ l. record l { end = asked l.end p.channel (Releasing (releasable v.held)) })
    (λ l. record l { joined = with_nth_joined l.joined p.channel (Some (record j { kept = v })) }) p.line ls
    (λ l. λ i. record l {
      end = asked l.end p.channel (Releasing (releasable v.held));
      joined = joined_again l.joined p.channel (Some (record j { kept = v })) (Some (record j { kept = released v })) i;
    })

-- ---- a channel without a join stays so

slot_none : (js : List (Option Joined)) (i : ℕ) → flat (slice_get js i) ≡ None → set js i None ≡ js
slot_none [] i e = refl
slot_none (o ∷ js) zero e = ap (λ x. x ∷ js) (sym e)
slot_none (o ∷ js) (suc i) e = ap (λ ys. o ∷ ys) (slot_none js i e)

nth_none : (js : List (Option Joined)) (c : ℕ) → nth_joined js c ≡ None → with_nth_joined js c None ≡ js
nth_none js zero e = refl
nth_none js (suc i) e = slot_none js i e

kept_on_none : (f : Direction → Direction) (c : ℕ) (l : SwitchLine) → nth_joined l.joined c ≡ None → kept_on c f l ≡ l
kept_on_none f c l e =
    ap (λ (o : Option Joined). record l { joined = with_nth_joined l.joined c (joined_with f o) }) e ∙ (λ i. record l { joined = nth_none l.joined c e i })

pub same_all : {X : Type 0} (n : ℕ) (xs : List X) → changed n (λ x. x) xs ≡ xs
same_all n [] = refl
same_all zero (x ∷ xs) = refl
same_all (suc n) (x ∷ xs) = ap (λ ys. x ∷ ys) (same_all n xs)

none_line : (ls : List SwitchLine) (p : SwitchChannel) (l : SwitchLine) → joined_at ls p ≡ None → slice_get ls p.line ≡ Some l
    → nth_joined l.joined p.channel ≡ None
none_line ls p l e at = ap (λ (o : Option SwitchLine). joined_on o p.channel) (sym at) ∙ e

pub kept_none : (f : Direction → Direction) (p : SwitchChannel) (ls : List SwitchLine) → joined_at ls p ≡ None → kept_at p f ls ≡ ls
kept_none f p ls e =
    same_there (kept_on p.channel f) (λ l. l) p.line ls (λ l at. kept_on_none f p.channel l (none_line ls p l e at)) ∙ same_all p.line ls

pub freed_none : (p : SwitchChannel) (ls : List SwitchLine) → joined_at ls p ≡ None → freed_at p ls ≡ ls
freed_none p ls e =
    same_there (freed_on p.channel) (λ l. l) p.line ls
    (λ l at. let none = none_line ls p l e at in
    ap (λ (o : Option Joined). released_if o p.channel (kept_on p.channel released l)) none ∙ kept_on_none released p.channel l none)
    ∙ same_all p.line ls

-- ---- other places

pub get_unchanged : {X : Type 0} (n m : ℕ) (f : X → X) (xs : List X) → (m ≡ n → ⊥) → slice_get (changed n f xs) m ≡ slice_get xs m
get_unchanged n m f [] h = refl
get_unchanged zero zero f (x ∷ xs) h = absurd (h refl)
get_unchanged zero (suc m) f (x ∷ xs) h = refl
get_unchanged (suc n) zero f (x ∷ xs) h = refl
get_unchanged (suc n) (suc m) f (x ∷ xs) h = get_unchanged n m f xs (λ e. h (ap suc e))

line_apart : (n c d : ℕ) (o : Option Joined) (ls : List SwitchLine) → (d ≡ c → ⊥)
    → joined_on (slice_get (changed n (λ l. record l { joined = with_nth_joined l.joined c o }) ls) n) d ≡ joined_on (slice_get ls n) d
line_apart n c d o [] ne = refl
line_apart zero c d o (l ∷ ls) ne = nth_apart l.joined c d o ne
line_apart (suc n) c d o (l ∷ ls) ne = line_apart n c d o ls ne

pub joined_apart : (p : SwitchChannel) (o : Option Joined) (x : SwitchChannel) (ls : List SwitchLine) → same_place x p ≡ false → joined_at (with_joined p o ls) x ≡ joined_at ls x
joined_apart p o x ls e = by_place (apart_by x p e)
  where
    by_place : (x.line ≡ p.line → ⊥) ⊎ ((x.line ≡ p.line) × (x.channel ≡ p.channel → ⊥)) → joined_at (with_joined p o ls) x ≡ joined_at ls x
    by_place (inl ne) = ap (λ l. joined_on l x.channel) (get_unchanged p.line x.line _ ls ne)
    by_place (inr h) =
        subst (λ (k : ℕ). joined_on (slice_get (with_joined p o ls) k) x.channel ≡ joined_on (slice_get ls k) x.channel) (sym h.0) (line_apart p.line p.channel x.channel o ls h.1)

-- ---- packet sizes

pub size_changed : (n m : ℕ) (f : SwitchLine → SwitchLine) (ls : List SwitchLine) → ((l : SwitchLine) → (f l).end.layer.flow ≡ l.end.layer.flow)
    → size_of_line (slice_get (changed n f ls) m) ≡ size_of_line (slice_get ls m)
size_changed n m f [] same = refl
size_changed zero zero f (l ∷ ls) same = ap (λ (w : Flow). w.size) (same l)
size_changed zero (suc m) f (l ∷ ls) same = refl
size_changed (suc n) zero f (l ∷ ls) same = refl
size_changed (suc n) (suc m) f (l ∷ ls) same = size_changed n m f ls same

-- the lines of two places have the sizes that they had before
pub sizes_same : (ls ms : List SwitchLine) (p q : SwitchChannel) → size_of_line (slice_get ms p.line) ≡ size_of_line (slice_get ls p.line)
    → size_of_line (slice_get ms q.line) ≡ size_of_line (slice_get ls q.line) → sizes_at ms p q ≡ sizes_at ls p q
sizes_same ls ms p q near far = λ i. record { near = near i; far = far i }

pub sizes_changed : (n : ℕ) (f : SwitchLine → SwitchLine) (ls : List SwitchLine) (p q : SwitchChannel) → ((l : SwitchLine) → (f l).end.layer.flow ≡ l.end.layer.flow)
    → sizes_at (changed n f ls) p q ≡ sizes_at ls p q
sizes_changed n f ls p q same = sizes_same ls (changed n f ls) p q (size_changed n p.line f ls same) (size_changed n q.line f ls same)

pub request_flow : (l : Layer) (k : ℕ) (r : Request) → (request l k r).flow ≡ l.flow
request_flow l k r = by_channel (channel_of l k)
  where
    by_channel : (o : Option Channel) → (on_found l k (λ ch. requested l.role l.flow ch r) o).flow ≡ l.flow
    by_channel None = refl
    by_channel (Some ch) = refl

pub sizes_asked : (x : SwitchChannel) (r : Request) (ls : List SwitchLine) (p q : SwitchChannel) → sizes_at (ask x r ls) p q ≡ sizes_at ls p q
sizes_asked x r ls p q = sizes_changed x.line _ ls p q (λ l. request_flow l.end.layer x.channel r)

pub sizes_asks : (x : SwitchChannel) (rs : List Request) (ls : List SwitchLine) (p q : SwitchChannel) → sizes_at (ask_all x rs ls) p q ≡ sizes_at ls p q
sizes_asks x [] ls p q = refl
sizes_asks x (r ∷ rs) ls p q = sizes_asks x rs (ask x r ls) p q ∙ sizes_asked x r ls p q

pub sizes_joined : (x : SwitchChannel) (o : Option Joined) (ls : List SwitchLine) (p q : SwitchChannel) → sizes_at (with_joined x o ls) p q ≡ sizes_at ls p q
sizes_joined x o ls p q = sizes_changed x.line _ ls p q (λ l. refl)
