pub mod Served
pub mod NetPlan
pub mod Plan
pub mod PlanView
pub mod PlannedView
pub mod Rules
