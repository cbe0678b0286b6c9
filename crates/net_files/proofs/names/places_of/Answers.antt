-- Each name is put before those behind it.
use Rattle.std.proofs.Common.{◌-◌, ap, sym, ◌∙◌, arith}
use Rattle.std.proofs.lemmas.Map.Text.{btree_map_updates_str}
use Rattle.net_files.specs.Scripts.{node_name}
use Rattle.net_files.proofs.FirstNames.{first_from, first_of_all}
use Rattle.net_files.proofs.LineWords.{position_of_names}
use Rattle.net_files.proofs.names.places_of.Goals as goal

pub loop-place-preserved : goal.loop-place-preserved
loop-place-preserved c = λ word.
    first_from node_name word c.as_bytes.result.now c.args.nodes.now (c.loop-place.place - 1) c.loop-place.place
    c.index-nodes-place.result _ _ (omega arith) (omega arith) c.index-nodes-place.is
    (c.as_bytes.ensures.value ∙ ap node_name (sym c.index-nodes-place.is)) (c.loop-place.invariant word)
    (btree_map_updates_str c.as_bytes.result.now c.loop-place.places c.insert.new.self _ c.in_ok-insert.ensures.updates word)

pub returns : goal.returns
returns c = λ word.
    c.loop-place.invariant word ∙ first_of_all node_name word c.args.nodes.now c.loop-place.place c.loop-place-test.false
    ∙ position_of_names node_name word c.args.nodes.now
