-- A client reads the text that was shown.
use Rattle.std.proofs.Common.{◌≡◌, ℕ, Bool, true, false, List, [], ◌∷◌, ◌++◌, eqb, refl, sym, ap, ◌∙◌, arith, append_assoc, append-nil, inl, inr, cond, subst}
use Rattle.std.proofs.lemmas.Bool.{cases_eq}
use Rattle.std.proofs.lemmas.Bool.Decides.{nat_tests}
use Rattle.service_ports.specs.declared.command.TelnetCommand.{TelnetCommand}
use Rattle.service_ports.specs.declared.command.TelnetCommand.TheVariants.{NoOperation, Will, Wont, Do, Dont}
use Rattle.service_ports.specs.Writing.{Output, new_output, with_text, with_command, octet_form, text_form, command_form, ends_in_return}
use Rattle.service_ports.specs.ClientForm.{ClientPlace, in_text, after_return, text_in, place_after, text_read, Item, shows, tells, with_items, texts, ClientReadsText}

-- where a client is after octets
abbrev pub place_from : ClientPlace → List ℕ → ClientPlace
place_from place [] = place
place_from place (octet ∷ octets) = place_from (place_after place octet) octets

pub text_read-append : (place : ClientPlace) (xs ys : List ℕ) → text_read place (xs ++ ys) ≡ text_read place xs ++ text_read (place_from place xs) ys
text_read-append place [] ys = refl
text_read-append place (x ∷ xs) ys =
    ap (λ t. text_in place x ++ t) (text_read-append (place_after place x) xs ys)
    ∙ sym (append_assoc (text_in place x) (text_read (place_after place x) xs) (text_read (place_from (place_after place x) xs) ys))

pub place_from-append : (place : ClientPlace) (xs ys : List ℕ) → place_from place (xs ++ ys) ≡ place_from (place_from place xs) ys
place_from-append place [] ys = refl
place_from-append place (x ∷ xs) ys = place_from-append (place_after place x) xs ys

-- where a client is that has read all so far
abbrev pub place_of : (after : Bool) → ClientPlace
place_of true = after_return
place_of false = in_text

-- what was read and what is read from there on
pub record Reads (after : Bool) (octets text : List ℕ) (next : Bool) : Type 0 where
  pub text_is : text_read (place_of after) octets ≡ text
  pub place_is : place_from (place_of after) octets ≡ place_of next

pub reads-append : (first mid last : Bool) (xs ys text more : List ℕ) → Reads first xs text mid → Reads mid ys more last → Reads first (xs ++ ys) (text ++ more) last
reads-append first mid last xs ys text more one two = record {
  text_is = text_read-append (place_of first) xs ys
      ∙ (λ i. one.text_is i ++ text_read (one.place_is i) ys) ∙ ap (λ t. text ++ t) two.text_is;
  place_is = place_from-append (place_of first) xs ys ∙ ap (λ p. place_from p ys) one.place_is ∙ two.place_is;
}

-- after an octet of text a client is in text, or after a CR
place_by : (is_return : Bool) → cond is_return after_return in_text ≡ place_of is_return
place_by true = refl
place_by false = refl

octet-read : (after : Bool) (x : ℕ) → Reads after (octet_form after x) (x ∷ []) (eqb x 13)
octet-read false x = elim (cases_eq x 255) [
  | inl e ↦ subst (λ y. Reads false (octet_form false y) (y ∷ []) (eqb y 13)) (sym e) (record { text_is = refl; place_is = refl })
  | inr other ↦
      let plain : eqb x 255 ≡ false = grind (arith, nat_tests) in
      record { text_is = simp plain; place_is = simp plain (place_by (eqb x 13)) }
]
octet-read true x = elim (cases_eq x 10) [
  | inl e ↦ subst (λ y. Reads true (octet_form true y) (y ∷ []) (eqb y 13)) (sym e) (record { text_is = refl; place_is = refl })
  | inr no_feed ↦ elim (cases_eq x 255) [
    | inl e ↦ subst (λ y. Reads true (octet_form true y) (y ∷ []) (eqb y 13)) (sym e) (record { text_is = refl; place_is = refl })
    | inr other ↦
        let plain : eqb x 255 ≡ false = grind (arith, nat_tests) in
        let ended : eqb x 10 ≡ false = grind (arith, nat_tests) in
        record { text_is = simp (plain, ended); place_is = simp (plain, ended) (place_by (eqb x 13)) }
  ]
]

command-read : (after : Bool) (command : TelnetCommand) → Reads after (command_form after command) [] false
command-read true NoOperation = record { text_is = refl; place_is = refl }
command-read true (Will option) = record { text_is = refl; place_is = refl }
command-read true (Wont option) = record { text_is = refl; place_is = refl }
command-read true (Do option) = record { text_is = refl; place_is = refl }
command-read true (Dont option) = record { text_is = refl; place_is = refl }
command-read false NoOperation = record { text_is = refl; place_is = refl }
command-read false (Will option) = record { text_is = refl; place_is = refl }
command-read false (Wont option) = record { text_is = refl; place_is = refl }
command-read false (Do option) = record { text_is = refl; place_is = refl }
command-read false (Dont option) = record { text_is = refl; place_is = refl }

pub text-read : (after : Bool) (xs : List ℕ) → Reads after (text_form after xs) xs (ends_in_return after xs)
text-read after [] = record { text_is = refl; place_is = refl }
text-read after (x ∷ xs) =
    reads-append after (eqb x 13) (ends_in_return (eqb x 13) xs) (octet_form after x) (text_form (eqb x 13) xs) (x ∷ []) xs
    (octet-read after x) (text-read (eqb x 13) xs)

-- what is read of all that was written
pub items-read : (o : Output) (seen : List ℕ) (items : List Item) → Reads false o.octets seen o.after_return
    → Reads false (with_items o items).octets (seen ++ texts items) (with_items o items).after_return
items-read o seen [] so_far = record { text_is = so_far.text_is ∙ sym (append-nil seen); place_is = so_far.place_is }
items-read o seen (shows text ∷ items) so_far =
    let now = reads-append false o.after_return (ends_in_return o.after_return text) o.octets (text_form o.after_return text) seen text so_far (text-read o.after_return text) in
    let on = items-read (with_text o text) (seen ++ text) items now in
    record { text_is = on.text_is ∙ append_assoc seen text (texts items); place_is = on.place_is }
items-read o seen (tells command ∷ items) so_far =
    let now = reads-append false o.after_return false o.octets (command_form o.after_return command) seen [] so_far (command-read o.after_return command) in
    items-read (with_command o command) seen items (record { text_is = now.text_is ∙ append-nil seen; place_is = now.place_is })

pub client_reads_text : ClientReadsText
client_reads_text capacity items = (items-read (new_output capacity) [] items (record { text_is = refl; place_is = refl })).text_is
