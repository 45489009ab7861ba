use Rattle.writer.proofs.Rows.{finite_parts, job_all}
use Rattle.writer.proofs.put_job.Goals as goal

pub put_front-requires-clause-floor_value : goal.put_front-requires-clause-floor_value
put_front-requires-clause-floor_value c =
    let a = c.args in
    let f = finite_parts a.mesh.now a.floor a.radius a.questions.now c.requires.questions_value in
    (f.0, f.1)

pub put_numbers-requires-clause-xs_value : goal.put_numbers-requires-clause-xs_value
put_numbers-requires-clause-xs_value c =
    let a = c.args in
    (finite_parts a.mesh.now a.floor a.radius a.questions.now c.requires.questions_value).2

pub put_numbers-requires-2-clause-xs_value : goal.put_numbers-requires-2-clause-xs_value
put_numbers-requires-2-clause-xs_value c =
    let a = c.args in
    (finite_parts a.mesh.now a.floor a.radius a.questions.now c.requires.questions_value).3

pub returns : goal.returns
returns c =
    let a = c.args in
    rw (c.put_numbers-2.ensures, c.put_numbers.ensures, c.put_front.ensures) (job_all a.bytes.now _ _ a.mesh.now a.floor a.radius a.questions.now)
