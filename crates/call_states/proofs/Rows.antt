-- Each packet has a row in each state that an end can be in, and a step leads to such a state.
use Rattle.std.proofs.Common.{◌≡◌, refl, sym, ap, subst, ◌∙◌}
use Rattle.std.specs.Prelude.{Option, Some, None, IsSome, option_and_then}
use Rattle.std.specs.Option.{option_map}
use Rattle.link_timers.specs.declared.role.Role.{Role}
use Rattle.link_timers.specs.declared.role.Role.TheVariants.{Dte, Dce}
use Rattle.packet_codec.specs.declared.packet_type.PacketType.{PacketType}
use Rattle.packet_codec.specs.declared.packet_type.PacketType.TheVariants as types
use Rattle.call_states.specs.declared.state.CallState.{CallState}
use Rattle.call_states.specs.declared.table.CallEvent.{CallEvent}
use Rattle.call_states.specs.declared.table.CallEvent.TheVariants.{Received, Unreadable}
use Rattle.call_states.specs.declared.table.CallStep.{CallStep}
use Rattle.call_states.specs.EndStates.{EndState, end_state_of, state_of}
use Rattle.call_states.specs.EndStates.EndState.{Ready, OwnWaiting, FarWaiting, DataTransfer, CallCollision, OwnClear}
use Rattle.call_states.specs.Table.{Row, done_by, row_for, step_at, step_of}

pub has_row_at : (role : Role) (place : EndState) (kind : PacketType) → IsSome (step_at role place (Received kind))
has_row_at Dte Ready types.CallRequest = refl
has_row_at Dte OwnWaiting types.CallRequest = refl
has_row_at Dte FarWaiting types.CallRequest = refl
has_row_at Dte DataTransfer types.CallRequest = refl
has_row_at Dte CallCollision types.CallRequest = refl
has_row_at Dte OwnClear types.CallRequest = refl
has_row_at Dce Ready types.CallRequest = refl
has_row_at Dce OwnWaiting types.CallRequest = refl
has_row_at Dce FarWaiting types.CallRequest = refl
has_row_at Dce DataTransfer types.CallRequest = refl
has_row_at Dce CallCollision types.CallRequest = refl
has_row_at Dce OwnClear types.CallRequest = refl
has_row_at _ _ _ = refl

pub has_unreadable_row_at : (role : Role) (place : EndState) → IsSome (step_at role place Unreadable)
has_unreadable_row_at role Ready = refl
has_unreadable_row_at role OwnWaiting = refl
has_unreadable_row_at role FarWaiting = refl
has_unreadable_row_at role DataTransfer = refl
has_unreadable_row_at Dte CallCollision = refl
has_unreadable_row_at Dce CallCollision = refl
has_unreadable_row_at role OwnClear = refl

pub end_state_of-state_of : (role : Role) (place : EndState) → end_state_of role (state_of role place) ≡ Some place
end_state_of-state_of Dte Ready = refl
end_state_of-state_of Dte OwnWaiting = refl
end_state_of-state_of Dte FarWaiting = refl
end_state_of-state_of Dte DataTransfer = refl
end_state_of-state_of Dte CallCollision = refl
end_state_of-state_of Dte OwnClear = refl
end_state_of-state_of Dce Ready = refl
end_state_of-state_of Dce OwnWaiting = refl
end_state_of-state_of Dce FarWaiting = refl
end_state_of-state_of Dce DataTransfer = refl
end_state_of-state_of Dce CallCollision = refl
end_state_of-state_of Dce OwnClear = refl

is_place : (role : Role) (state : CallState) (place : EndState) → state ≡ state_of role place → IsSome (end_state_of role state)
is_place role state place e = subst (λ o. IsSome o) (sym (ap (end_state_of role) e ∙ end_state_of-state_of role place)) refl

abbrev state_in : CallState → Option CallStep → CallState
state_in other None = other
state_in other (Some s) = s.state

kept_by : (role : Role) (place : EndState) (found : Option Row) (done : CallStep)
    → option_map (done_by role place) found ≡ Some done → IsSome (end_state_of role done.state)
kept_by role place None done e = absurd (cc)
kept_by role place (Some r) done e = is_place role done.state r.new (sym (ap (state_in done.state) e))

-- a step from a state that an end can be in leads to such a state
pub kept_at : (role : Role) (place : EndState) (event : CallEvent) (done : CallStep)
    → step_at role place event ≡ Some done → IsSome (end_state_of role done.state)
kept_at role place event done e = kept_by role place (row_for role place event) done e

row_from : (role : Role) (from : Option EndState) (kind : PacketType)
    → IsSome from → IsSome (option_and_then (λ place. step_at role place (Received kind)) from)
row_from role None kind h = absurd (cc)
row_from role (Some place) kind h = has_row_at role place kind

-- each packet has a row
pub has_row : (role : Role) (state : CallState) (kind : PacketType)
    → IsSome (end_state_of role state) → IsSome (step_of role state (Received kind))
has_row role state kind h = row_from role (end_state_of role state) kind h

unreadable_from : (role : Role) (from : Option EndState)
    → IsSome from → IsSome (option_and_then (λ place. step_at role place Unreadable) from)
unreadable_from role None h = absurd (cc)
unreadable_from role (Some place) h = has_unreadable_row_at role place

pub has_unreadable_row : (role : Role) (state : CallState)
    → IsSome (end_state_of role state) → IsSome (step_of role state Unreadable)
has_unreadable_row role state h = unreadable_from role (end_state_of role state) h
