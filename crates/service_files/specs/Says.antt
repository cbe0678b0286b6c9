-- What the tables of a service file say, with what stands for what is left out.
use Rattle.std.specs.Prelude.{◌≡◌, ◌≤◌, ℕ, List, [], length, codes, Option, Some, None, option_map, unwrap_or, Vec, ⊤, true}
use Rattle.std.specs.Global.{Global}
use Rattle.std.specs.Prelude.{if◌then◌else◌, Ok}
use Rattle.std.specs.Net.Grammar.{IsSocketText}
use Rattle.std.specs.declared.net.socket_addr.SocketAddr.{SocketAddr}
use Rattle.hex.specs.Hex.{decode_of}
use Rattle.toml.specs.Data.{Data, Items, Members, as_str}
use Rattle.net_config.specs.Served.{same_text}
use Rattle.service_ports.specs.declared.mode.PortMode.{PortMode}
use Rattle.service_ports.specs.declared.mode.PortMode.TheVariants.{Telnet, Raw}
use Rattle.service_files.specs.declared.file.BuiltInName.{BuiltInName}
use Rattle.service_files.specs.declared.file.BuiltInName.TheVariants.{Echo, Time, Discard}
use Rattle.bridge_ports.specs.declared.phases.AtReset.{AtReset}
use Rattle.bridge_ports.specs.declared.phases.AtReset.TheVariants as at_reset
use Rattle.service_files.specs.declared.file.Connect.{Connect}
use Rattle.service_files.specs.declared.file.HostService.{HostService}
use Rattle.service_files.specs.declared.file.HostService.TheVariants as host_service
use Rattle.service_files.specs.declared.file.TerminalsTable.{TerminalsTable}
use Rattle.service_files.specs.declared.file.ServiceTable.{ServiceTable}
use Rattle.service_files.specs.declared.file.CallerTable.{CallerTable}
use Rattle.service_files.specs.declared.addresses.Allow.{Allow}
use Rattle.service_files.specs.declared.addresses.Prefix.{Prefix}
use Rattle.std.specs.Net.Socket.{socket_ip}
use Rattle.service_files.specs.Addresses.{IsPrefixText, is_here}
use Rattle.service_files.specs.Bindings.{is_apart}
use Rattle.service_files.specs.Reads.{EachSays, text_at, number_at, flag_at, values_at, table_at}

abbrev pub mode_of : Option (List ℕ) → PortMode
mode_of None = Telnet
mode_of (Some word) = if same_text word (codes "raw") then Raw else Telnet

abbrev pub builtin_of : List ℕ → BuiltInName
builtin_of word =
    if same_text word (codes "echo") then Echo else (if same_text word (codes "time") then Time else Discard)

abbrev pub at_reset_of : Option (List ℕ) → AtReset
at_reset_of None = at_reset.ClearCall
at_reset_of (Some word) = if same_text word (codes "continue") then at_reset.Continue else at_reset.ClearCall

-- the value is the text of the prefix
pub record SaysPrefix (value : Data) (prefix : Prefix) : Type 0 where
  pub text : List ℕ
  pub is : as_str value ≡ Some text
  pub says : IsPrefixText text prefix

-- no array is no prefixes
abbrev pub SaysPrefixes : Option Items → Option (Vec Prefix Global) → Type 0
SaysPrefixes None None = ⊤
SaysPrefixes (Some values) (Some prefixes) = EachSays Prefix SaysPrefix values prefixes.items
SaysPrefixes _ _ = ⊥

abbrev pub SaysAllow : Members → Allow → Type 0
SaysAllow entry allow = SaysPrefixes (values_at (codes "allow") entry) allow.prefixes

-- ---- `[[terminals]]`

pub record SaysTerminals (entry : Members) (table : TerminalsTable) : Type 0 where
  pub pad : table.pad.now ≡ unwrap_or (text_at (codes "pad") entry) []
  pub listen : IsSocketText (unwrap_or (text_at (codes "listen") entry) []) table.listen
  pub first : table.first ≡ unwrap_or (number_at (codes "first") entry) 0
  pub last : table.last ≡ number_at (codes "last") entry
  pub mode : table.mode ≡ mode_of (text_at (codes "mode") entry)
  pub greeting : option_map (λ text. text.now) table.greeting ≡ text_at (codes "greeting") entry
  pub idle : table.idle ≡ unwrap_or (number_at (codes "idle") entry) 0
  pub allow : SaysAllow entry table.allow

-- ---- `[[service]]`

-- a service to connect to, whose address is the text
pub record SaysConnect (entry : Members) (text : List ℕ) (connect : Connect) : Type 0 where
  pub at : IsSocketText text connect.at
  pub hello : connect.hello ≡ flag_at (codes "hello") entry
  pub wait : connect.wait ≡ unwrap_or (number_at (codes "wait") entry) 200
  pub at_reset : connect.at_reset ≡ at_reset_of (text_at (codes "at_reset") entry)
  pub linger : connect.linger ≡ unwrap_or (number_at (codes "linger") entry) 40

-- either it is built in, or there is an address to connect to
abbrev pub IsHost : Members → (builtin : Option (List ℕ)) → (connect : Option (List ℕ)) → HostService → Type 0
IsHost entry (Some word) None (host_service.BuiltIn builtin) =
    builtin ≡ builtin_of word
IsHost entry None (Some text) (host_service.Connect connect) = SaysConnect entry text connect
IsHost _ _ _ _ = ⊥

abbrev pub SaysHost : Members → HostService → Type 0
SaysHost entry = IsHost entry (text_at (codes "builtin") entry) (text_at (codes "connect") entry)

pub record SaysService (entry : Members) (table : ServiceTable) : Type 0 where
  pub host : table.host.now ≡ unwrap_or (text_at (codes "host") entry) []
  pub service : SaysHost entry table.service

-- ---- `[[caller]]`

-- up to 16 octets in hexadecimal
abbrev pub SaysUserData : Option (List ℕ) → Vec ℕ Global → Type 0
SaysUserData None octets = octets.items ≡ []
SaysUserData (Some text) octets = (decode_of text ≡ Ok octets.items) × (length octets.items ≤ 16)

pub record SaysCaller (entry : Members) (table : CallerTable) : Type 0 where
  pub host : table.host.now ≡ unwrap_or (text_at (codes "host") entry) []
  pub listen : IsSocketText (unwrap_or (text_at (codes "listen") entry) []) table.listen
  pub call : table.call.now ≡ unwrap_or (text_at (codes "call") entry) []
  pub user_data : SaysUserData (text_at (codes "user_data") entry) table.user_data
  pub at_reset : table.at_reset ≡ at_reset_of (text_at (codes "at_reset") entry)
  pub linger : table.linger ≡ unwrap_or (number_at (codes "linger") entry) 1200
  pub allow : SaysAllow entry table.allow

-- ---- the document

abbrev pub SaysControl : Option (List ℕ) → Option SocketAddr → Type 0
SaysControl None None = ⊤
SaysControl (Some text) (Some control) = IsSocketText text control
SaysControl _ _ = ⊥

-- an address of this machine alone, where the control port is not
pub record IsPage (control : Option SocketAddr) (text : List ℕ) (listen : SocketAddr) : Type 0 where
  pub address : IsSocketText text listen
  pub here : is_here (socket_ip listen) ≡ true
  pub apart : is_apart listen control ≡ true

abbrev pub SaysWeb : Option SocketAddr → Option Members → Option SocketAddr → Type 0
SaysWeb control None None = ⊤
SaysWeb control (Some web) (Some listen) = IsPage control (unwrap_or (text_at (codes "listen") web) []) listen
SaysWeb _ _ _ = ⊥

abbrev pub IsConnections : Option Members → ℕ → Type 0
IsConnections None connections = connections ≡ 64
IsConnections (Some limits) connections =
    connections ≡ unwrap_or (number_at (codes "connections") limits) 64

abbrev pub SaysConnections : Members → ℕ → Type 0
SaysConnections document = IsConnections (table_at (codes "limits") document)
