use Rattle.network_laws.proofs.line.line_course_law.Goals as goal
use Rattle.network_laws.proofs.LineCourses.{made_course, event_course, loss_course, time_course, sent_course}

pub returns : goal.returns
returns g c = record {
  made = made_course;
  event = event_course g.L.Line.service;
  loss = loss_course;
  time = time_course;
  sent = sent_course;
}
