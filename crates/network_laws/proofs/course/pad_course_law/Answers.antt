-- The law of the courses of the PADs of a network.
use Rattle.network_laws.proofs.Courses.{own_course, other_course, loss_course, time_course, sent_course, typed_course}
use Rattle.network_laws.proofs.HandedCourses.{switch_course}
use Rattle.network_laws.proofs.MadeCourses.{made_course}
use Rattle.network_laws.proofs.course.pad_course_law.Goals as goal

pub returns : goal.returns
returns g c = record {
  made = made_course g.L.Line.service;
  own = own_course g.L.Line.service;
  other = other_course g.L.Line.service;
  switch = switch_course g.L.Line.service;
  loss = loss_course g.L.Line.service;
  time = time_course;
  sent = sent_course;
  typed = typed_course;
}
