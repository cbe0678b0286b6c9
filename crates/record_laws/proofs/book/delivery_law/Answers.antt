use Rattle.record_laws.proofs.Books.Delivery.{delivery_whole}
use Rattle.record_laws.proofs.book.delivery_law.Goals as goal

pub returns : goal.returns
returns c = delivery_whole
