-- The law of the course that a list of events makes.
use Rattle.node_laws.proofs.Pads.EventCourses.{sent_so}
use Rattle.node_laws.proofs.pad.occasions.event_course_law.Goals as goal

pub returns : goal.returns
returns c = sent_so
