use Rattle.ent_total.proofs.applying.apply_left.Goals as goal

pub returns-in-Some-clause-stopped : goal.returns-in-Some-clause-stopped
returns-in-Some-clause-stopped c =
    let ensured = c.in-Err.ensures in
    let is = c.in-Some.ensures.some in
    record {
      stop = rw is at ensured.stop;
      is_later = rw is at ensured.later;
      world = rw is at ensured.stopped_world;
      flushed = ensured.flushed;
      born_are = rw is at ensured.stopped_born;
      faults_are = rw is at ensured.stopped_faults;
      memory = rw is at ensured.stopped_memory;
      whole_world = λ w earlier stopped. (rw is at (ensured.whole_later w earlier stopped)).world;
      whole_faults =
          λ w earlier stopped. (rw is at (ensured.whole_later w earlier stopped)).faults_are;
    }
