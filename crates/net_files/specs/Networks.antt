-- Which network a text spells, table by table and key by key. A key with `Some` value may be left out, and then has
-- that value; one with `None` may not.
use Rattle.std.specs.Prelude.{◌≡◌, ℕ, Bool, false, ◌||◌, ◌==◌, List, [], ◌∷◌, length, map, codes, IsTrue}
use Rattle.std.specs.Prelude.{string_bytes, is_ok, Some, None}
use Rattle.toml.specs.Data.{Members, Items, no_items, item, table}
use Rattle.toml.specs.Parse.{parse_document}
use Rattle.packet_codec.specs.Address.{address_of}
use Rattle.x28_commands.specs.Numbers.{IsPair}
use Rattle.x28_commands.specs.CommandForm.{IsShortList}
use Rattle.x3_params.specs.declared.profile.Profile.{Profile}
use Rattle.x3_params.specs.declared.profile.Profile.TheVariants.{Simple, Transparent}
use Rattle.net_config.specs.declared.config.Config.{Config}
use Rattle.net_config.specs.declared.config.NodeConfig.{NodeConfig}
use Rattle.net_config.specs.declared.config.NodeKind.{NodeKind}
use Rattle.net_config.specs.declared.config.NodeKind.TheVariants as kind_is
use Rattle.net_config.specs.declared.config.TerminalsConfig.{TerminalsConfig}
use Rattle.net_config.specs.declared.config.Setting.{Setting}
use Rattle.net_config.specs.declared.config.LineConfig.{LineConfig}
use Rattle.net_config.specs.declared.config.RouteConfig.{RouteConfig}
use Rattle.net_files.specs.Marks.{begins_with_mark}
use Rattle.net_files.specs.Entries.{has_only, text_at, number_at, flag_at, array_at, passing, name_at}

-- ---- `[[node]]`

-- how a kind is written
abbrev pub kind_word : NodeKind → List ℕ
kind_word (kind_is.Pad pad) = codes "pad"
kind_word kind_is.Host = codes "host"
kind_word kind_is.Switch = codes "switch"

-- how a profile is written
abbrev pub profile_word : Profile → List ℕ
profile_word Simple = codes "SIMPLE"
profile_word Transparent = codes "TRANSPARENT"

abbrev pub pair_of : Setting → ℕ × ℕ
pair_of s = (s.number, s.value)

-- a text of pairs, as the command SET has them, or of none
pub data SettingsForm : List ℕ → List Setting → Type 0 where
  none : SettingsForm [] []
  some : {text : List ℕ} {settings : List Setting} → IsShortList (ℕ × ℕ) IsPair text (map pair_of settings)
      → SettingsForm text settings

pub record IsPad (entry : Members) (pad : TerminalsConfig) : Type 0 where
  pub keys : IsTrue (has_only (codes "name" ∷ codes "kind" ∷ codes "terminals" ∷ codes "profile" ∷ codes "set"
      ∷ codes "speed" ∷ []) entry)
  pub terminals : number_at (codes "terminals") (Some 1) entry ≡ Some pad.terminals
  pub profile : text_at (codes "profile") (Some (codes "SIMPLE")) entry ≡ Some (profile_word pad.profile)
  pub speed : number_at (codes "speed") (Some 14) entry ≡ Some pad.speed
  pub set : List ℕ
  pub set_is : text_at (codes "set") (Some []) entry ≡ Some set
  pub settings : SettingsForm set pad.settings.items

-- what a node of its kind has beside its name and its kind
abbrev pub IsOfKind : Members → NodeKind → Type 0
IsOfKind entry (kind_is.Pad pad) = IsPad entry pad
IsOfKind entry kind_is.Host = IsTrue (has_only (codes "name" ∷ codes "kind" ∷ []) entry)
IsOfKind entry kind_is.Switch = IsTrue (has_only (codes "name" ∷ codes "kind" ∷ []) entry)

pub record IsNode (entry : Members) (node : NodeConfig) : Type 0 where
  pub name : name_at (codes "name") entry ≡ Some (string_bytes node.name)
  pub kind : text_at (codes "kind") None entry ≡ Some (kind_word node.kind)
  pub rest : IsOfKind entry node.kind

-- ---- `[[line]]`

-- 1 to 15 digits
abbrev pub is_address : List ℕ → Bool
is_address text = is_ok (address_of text)

abbrev pub is_address_or_none : List ℕ → Bool
is_address_or_none text = (length text == 0) || is_address text

pub record IsLine (entry : Members) (line : LineConfig) : Type 0 where
  pub keys : IsTrue (has_only (codes "dte" ∷ codes "dce" ∷ codes "address" ∷ codes "channels" ∷ codes "modulo"
      ∷ codes "size" ∷ codes "window" ∷ codes "k" ∷ codes "n2" ∷ codes "standing" ∷ []) entry)
  pub dte : name_at (codes "dte") entry ≡ Some (string_bytes line.dte)
  pub dce : name_at (codes "dce") entry ≡ Some (string_bytes line.dce)
  pub address : passing is_address_or_none (text_at (codes "address") (Some []) entry)
      ≡ Some (string_bytes line.address)
  pub channels : number_at (codes "channels") (Some 4) entry ≡ Some line.channels
  pub modulo : number_at (codes "modulo") (Some 8) entry ≡ Some line.modulo
  pub size : number_at (codes "size") (Some 128) entry ≡ Some line.size
  pub window : number_at (codes "window") (Some 2) entry ≡ Some line.window
  pub k : number_at (codes "k") (Some 7) entry ≡ Some line.k
  pub n2 : number_at (codes "n2") (Some 3) entry ≡ Some line.n2
  pub standing : flag_at (codes "standing") (Some false) entry ≡ Some line.standing

-- ---- `[[route]]`

pub record IsRoute (entry : Members) (route : RouteConfig) : Type 0 where
  pub keys : IsTrue (has_only (codes "switch" ∷ codes "prefix" ∷ codes "line" ∷ []) entry)
  pub switch : name_at (codes "switch") entry ≡ Some (string_bytes route.switch)
  pub prefix : passing is_address (text_at (codes "prefix") None entry) ≡ Some (string_bytes route.prefix)
  pub line : number_at (codes "line") None entry ≡ Some route.line

-- ---- the document

-- each value is a table of this form, in order
pub data TablesForm (A : Type 0) (Form : Members → A → Type 0) : Items → List A → Type 0 where
  none : TablesForm A Form no_items []
  more : {entry : Members} {values : Items} {x : A} {xs : List A} → Form entry x → TablesForm A Form values xs
      → TablesForm A Form (item (table entry) values) (x ∷ xs)

-- so are those of the array at a key
pub record IsArray (A : Type 0) (Form : Members → A → Type 0) (key : List ℕ) (document : Members) (xs : List A)
    : Type 0 where
  pub values : Items
  pub there : array_at key document ≡ Some values
  pub tables : TablesForm A Form values xs

pub record IsNetwork (document : Members) (config : Config) : Type 0 where
  pub keys : IsTrue (has_only (codes "node" ∷ codes "line" ∷ codes "route" ∷ []) document)
  pub nodes : IsArray NodeConfig IsNode (codes "node") document config.nodes.items
  pub lines : IsArray LineConfig IsLine (codes "line") document config.lines.items
  pub routes : IsArray RouteConfig IsRoute (codes "route") document config.routes.items

-- the text is a TOML document, without the mark before it, that spells the network
pub record Spells (text : List ℕ) (config : Config) : Type 0 where
  pub unmarked : begins_with_mark text ≡ false
  pub document : Members
  pub parsed : parse_document text ≡ Some document
  pub network : IsNetwork document config
