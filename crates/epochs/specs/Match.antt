-- What one end of a call took, epoch by epoch, against what the other end sent.
use Rattle.std.specs.Prelude.{List, [], ◌∷◌}
use Rattle.epochs.specs.Epoch.{Epoch, IsEmpty, IsPrefixOf}

-- Taken epochs match sent ones, front by front. Nothing taken matches anything; an empty taken epoch need not come of
-- any sent one; a taken epoch may come of the sent one at the front, if it begins it; a sent epoch may be passed over.
-- So epochs in which anything was taken come of sent ones in rising order, and never two of one.
pub data Match : List Epoch → List Epoch → Type 0 where
  nothing : {sent : List Epoch} → Match [] sent
  drop_empty : {e : Epoch} {taken sent : List Epoch} → IsEmpty e → Match taken sent → Match (e ∷ taken) sent
  join : {e f : Epoch} {taken sent : List Epoch} → IsPrefixOf e f → Match taken sent → Match (e ∷ taken) (f ∷ sent)
  skip : {f : Epoch} {taken sent : List Epoch} → Match taken sent → Match taken (f ∷ sent)
