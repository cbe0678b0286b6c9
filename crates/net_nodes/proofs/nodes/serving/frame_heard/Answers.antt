use Rattle.std.proofs.Common.{arith, refl}
use Rattle.std.specs.Prelude.{ℕ, suc, ◌<◌, List, [], ◌∷◌, slice_index}
use Rattle.switch_laws.specs.Turn.{AreOctets}
use Rattle.net_nodes.proofs.nodes.serving.frame_heard.Goals as goal

octets : (xs : List ℕ) → ((i : ℕ) → slice_index xs i < 256) → AreOctets xs
octets [] h = tt
octets (x ∷ xs) h = (h 0, octets xs (λ i. h (suc i)))

pub returns : goal.returns
returns c = record {
  event = refl;
  octets = octets c.args.octets.now (λ i. omega (arith, c.type_inv.octets i));
}
