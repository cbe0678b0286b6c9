-- A step leads to a state that an end can be in.
use Rattle.std.proofs.Common.{◌≡◌, refl, sym, ap, subst, ◌∙◌}
use Rattle.std.specs.Prelude.{Option, Some, None, IsSome}
use Rattle.std.specs.Option.{option_map}
use Rattle.link_timers.specs.declared.role.Role.{Role}
use Rattle.link_timers.specs.declared.role.Role.TheVariants.{Dte, Dce}
use Rattle.reset_restart.specs.declared.reset.ResetState.{ResetState}
use Rattle.reset_restart.specs.declared.reset.ResetEvent.{ResetEvent}
use Rattle.reset_restart.specs.declared.reset.ResetStep.{ResetStep}
use Rattle.reset_restart.specs.Reset.{EndState, Row, done_by, end_state_of, row_for, state_of, step_at}
use Rattle.reset_restart.specs.Reset.EndState.{Ready, OwnReset}

pub end_state_of-state_of : (role : Role) (place : EndState) → end_state_of role (state_of role place) ≡ Some place
end_state_of-state_of Dte Ready = refl
end_state_of-state_of Dte OwnReset = refl
end_state_of-state_of Dce Ready = refl
end_state_of-state_of Dce OwnReset = refl

abbrev state_in : ResetState → Option ResetStep → ResetState
state_in other None = other
state_in other (Some s) = s.state

kept_by : (role : Role) (found : Option Row) (done : ResetStep)
    → option_map (done_by role) found ≡ Some done → IsSome (end_state_of role done.state)
kept_by role None done e = absurd (cc)
kept_by role (Some r) done e =
    subst (λ o. IsSome o) (sym (ap (end_state_of role) (sym (ap (state_in done.state) e)) ∙ end_state_of-state_of role r.new)) refl

-- a step from a state that an end can be in leads to such a state
pub kept_at : (role : Role) (place : EndState) (event : ResetEvent) (done : ResetStep)
    → step_at role place event ≡ Some done → IsSome (end_state_of role done.state)
kept_at role place event done e = kept_by role (row_for place event) done e
