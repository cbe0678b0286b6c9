-- Each line of which all is kept has a history, which its records and pairs follow.
use Rattle.std.specs.Prelude.{slice_get}
use Rattle.std.proofs.Common.{ap, ◌∙◌}
use Rattle.call_records.specs.Book.{Book}
use Rattle.record_laws.proofs.Books.Counting.{records_counted}
use Rattle.record_laws.proofs.Books.AcceptedPairs.{pairs_accepted}
use Rattle.node_laws.specs.LineRecords.Histories.{LineHistory, HistoryLaw}
use Rattle.data_transfer.proofs.Windows.{window_below}
use Rattle.node_laws.proofs.LineRecords.Counting.{same_layer}

pub history_kept : HistoryLaw
history_kept s b l k =
    let p = k.setting.dte.layer in
    let h : LineHistory = record { setting = s; moves = k.moves } in (
      h,
      record {
        possible = record { setting = k.setting; allowed = k.allowed };
        layers = λ role. same_layer s b l k role;
        book = k.book;
        counts = λ i r there. records_counted s.dte_node s.dce_node s.dte.channels s.dte.flow s.dte.standing p.channels_least (window_below _ p.flow_is) k.moves k.allowed i r
            (ap (λ (x : Book). slice_get x.records i) k.book ∙ there);
        accepted = pairs_accepted s.dte_node s.dce_node s.dte.channels s.dte.flow s.dte.standing p.channels_least (window_below _ p.flow_is) k.moves k.allowed;
      },
    )
