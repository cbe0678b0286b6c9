-- What was written stays so when a buffer is emptied.
use Rattle.std.proofs.Common.{◌≡◌, ℕ, List, [], ◌++◌, Option, None, Some, refl, sym, ap, ◌∙◌, subst, append-nil}
use Rattle.std.specs.Io.KnownBytes.{Keeps, append_known}
use Rattle.octet_streams.proofs.Written.{appends_kept}
use Rattle.command_words.specs.declared.invocation.Invocation.{Invocation}
use Rattle.command_words.specs.declared.invocation.RunMode.{RunMode}
use Rattle.net_config.specs.declared.config.Config.{Config}
use Rattle.net_files.specs.declared.script.Script.{Script}
use Rattle.net_player.specs.Programs.{PlaysOn, PlaysTexts, PlaysAsked, Performs}

plays_on_kept : {mode : RunMode} {config : Config} {script : Script} (a b c : Option (List ℕ))
    → PlaysOn mode config script a b → Keeps b c → PlaysOn mode config script a c
plays_on_kept a b c plays kept = record {
  start = plays.start;
  made = plays.made;
  ended = plays.ended;
  writes = record {
    text = plays.writes.text;
    appended = appends_kept a b c plays.writes.text plays.writes.appended kept;
    kind = plays.writes.kind;
  };
}

plays_texts_kept : {mode : RunMode} {IsNet IsText : List ℕ → Type 0} (a b c : Option (List ℕ))
    → PlaysTexts mode IsNet IsText a b → Keeps b c → PlaysTexts mode IsNet IsText a c
plays_texts_kept a b c plays kept = record {
  net = plays.net;
  is_net = plays.is_net;
  config = plays.config;
  network = plays.network;
  text = plays.text;
  is_text = plays.is_text;
  script = plays.script;
  read = plays.read;
  plays = plays_on_kept a b c plays.plays kept;
}

plays_asked_kept : (asked : Option Invocation) (left a b c : Option (List ℕ))
    → PlaysAsked asked left a b → Keeps b c → PlaysAsked asked left a c
plays_asked_kept None left a b c plays kept = plays_texts_kept a b c plays kept
plays_asked_kept (Some invocation) left a b c plays kept = plays_texts_kept a b c plays kept

-- what was performed stays so
pub performs_kept : {words : List (List ℕ)} {left : Option (List ℕ)} (a b c : Option (List ℕ))
    → Performs words left a b → Keeps b c → Performs words left a c
performs_kept {words} {left} a b c performs kept = record {
  asked = performs.asked;
  asks = performs.asks;
  plays = plays_asked_kept performs.asked left a b c performs.plays kept;
}

append_known-nil : (known : Option (List ℕ)) → append_known known [] ≡ known
append_known-nil None = refl
append_known-nil (Some xs) = ap Some (append-nil xs)

-- an empty buffer holds nothing back
pub performs_emptied : {words : List (List ℕ)} {left : Option (List ℕ)} (a b inner : Option (List ℕ)) (buffer : List ℕ)
    → Performs words left a b → Keeps b (append_known inner buffer) → buffer ≡ [] → Performs words left a inner
performs_emptied {words} {left} a b inner buffer performs kept empty =
    let P : Option (List ℕ) → Type 0 = λ c. Performs words left a c in
    let whole : append_known inner buffer ≡ inner = ap (append_known inner) empty ∙ append_known-nil inner in
    subst P whole (performs_kept a b (append_known inner buffer) performs kept)
