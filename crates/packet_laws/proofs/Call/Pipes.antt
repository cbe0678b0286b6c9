-- Numbers, P(R) and interrupts in a pipe when a packet is put in or taken off.
use Rattle.std.proofs.Common.{◌≡◌, ℕ, suc, ◌+◌, ◌≤◌, List, [], ◌∷◌, ◌++◌, length, refl, sym, ap, subst, ◌∙◌, append_assoc, length-append, arith}
use Rattle.data_transfer.specs.declared.flow.Flow.{Flow}
use Rattle.data_transfer.specs.Packets.{Datum, Body}
use Rattle.data_transfer.specs.Packets.Body.{Data, Interrupt, InterruptConfirmation, ReceiveReady, ReceiveNotReady}
use Rattle.packet_laws.proofs.Call.OneEpoch.{data_of, datas, interrupt_of, interrupts, confirmations, NumberOf, Numbers, AckOf, Acks}

pub datas_append : (xs ys : List Body) → datas (xs ++ ys) ≡ datas xs ++ datas ys
datas_append [] ys = refl
datas_append (x ∷ xs) ys = ap (λ (l : List Datum). data_of x ++ l) (datas_append xs ys) ∙ sym (append_assoc (data_of x) (datas xs) (datas ys))

pub interrupts_append : (xs ys : List Body) → interrupts (xs ++ ys) ≡ interrupts xs ++ interrupts ys
interrupts_append [] ys = refl
interrupts_append (x ∷ xs) ys = ap (λ (l : List (List ℕ)). interrupt_of x ++ l) (interrupts_append xs ys) ∙ sym (append_assoc (interrupt_of x) (interrupts xs) (interrupts ys))

pub confirmations_append : (xs ys : List Body) → confirmations (xs ++ ys) ≡ confirmations xs + confirmations ys
confirmations_append [] ys = omega arith
confirmations_append (x ∷ xs) ys = let e = confirmations_append xs ys in omega arith

number_map : (flow : Flow) (t : Body) (k : ℕ) (rest rest' : ℕ → Type 0) → ((j : ℕ) → j ≡ k + length (data_of t) → rest j → rest' j) → NumberOf flow t k rest → NumberOf flow t k rest'
number_map flow (Data s r d) k rest rest' f h = (h.0, f (suc k) (omega arith) h.1)
number_map flow (Interrupt o) k rest rest' f h = f k (omega arith) h
number_map flow InterruptConfirmation k rest rest' f h = f k (omega arith) h
number_map flow (ReceiveReady r) k rest rest' f h = f k (omega arith) h
number_map flow (ReceiveNotReady r) k rest rest' f h = f k (omega arith) h
number_map flow _ k rest rest' f h = absurd h

pub numbers_push : (flow : Flow) (o : List Body) (k : ℕ) (t : Body) → Numbers flow k o → NumberOf flow t (k + length (datas o)) (λ j. Unit {0}) → Numbers flow k (o ++ t ∷ [])
numbers_push flow [] k t h e = subst (λ (j : ℕ). NumberOf flow t j (λ i. Unit {0})) (omega arith) e
numbers_push flow (x ∷ o) k t h e =
    number_map flow x k (λ j. Numbers flow j o) (λ j. Numbers flow j (o ++ t ∷ [])) (λ j is h'.
    let len = length-append (data_of x) (datas o) in
    let same : k + length (data_of x ++ datas o) ≡ j + length (datas o) = omega arith in
    numbers_push flow o j t h' (subst (λ (i : ℕ). NumberOf flow t i (λ i. Unit {0})) same e)) h

ack_map : (flow : Flow) (t : Body) (c : ℕ) (rest rest' : ℕ → Type 0) → ((j : ℕ) → c ≤ j → rest j → rest' j) → AckOf flow t c rest → AckOf flow t c rest'
ack_map flow (Data s r d) c rest rest' f h = let le = h.1.1 in (h.0, (h.1.0, h.1.1, f h.0 le h.1.2))
ack_map flow (ReceiveReady r) c rest rest' f h = let le = h.1.1 in (h.0, (h.1.0, h.1.1, f h.0 le h.1.2))
ack_map flow (ReceiveNotReady r) c rest rest' f h = let le = h.1.1 in (h.0, (h.1.0, h.1.1, f h.0 le h.1.2))
ack_map flow _ c rest rest' f h = f c (omega arith) h

ack_le : (flow : Flow) (t : Body) (c f : ℕ) (rest : ℕ → Type 0) → ((j : ℕ) → rest j → j ≤ f) → AckOf flow t c rest → c ≤ f
ack_le flow (Data s r d) c f rest g h = let le = h.1.1 in let le' = g h.0 h.1.2 in omega arith
ack_le flow (ReceiveReady r) c f rest g h = let le = h.1.1 in let le' = g h.0 h.1.2 in omega arith
ack_le flow (ReceiveNotReady r) c f rest g h = let le = h.1.1 in let le' = g h.0 h.1.2 in omega arith
ack_le flow _ c f rest g h = g c h

pub acks_le : (flow : Flow) (b : List Body) (c f : ℕ) → Acks flow c b f → c ≤ f
acks_le flow [] c f h = h
acks_le flow (t ∷ ts) c f h = ack_le flow t c f (λ n. Acks flow n ts f) (λ j h'. acks_le flow ts j f h') h

pub acks_more : (flow : Flow) (b : List Body) (c f f' : ℕ) → f ≤ f' → Acks flow c b f → Acks flow c b f'
acks_more flow [] c f f' le h = omega arith
acks_more flow (t ∷ ts) c f f' le h = ack_map flow t c (λ n. Acks flow n ts f) (λ n. Acks flow n ts f') (λ j l h'. acks_more flow ts j f f' le h') h

pub acks_push : (flow : Flow) (b : List Body) (c f : ℕ) (t : Body) → ((j : ℕ) → j ≤ f → AckOf flow t j (λ n. n ≤ f)) → Acks flow c b f → Acks flow c (b ++ t ∷ []) f
acks_push flow [] c f t g h = g c h
acks_push flow (x ∷ b) c f t g h = ack_map flow x c (λ n. Acks flow n b f) (λ n. Acks flow n (b ++ t ∷ []) f) (λ j l h'. acks_push flow b j f t g h') h
