use Rattle.term_core.proofs.RunLemmas.{labels_one, labelled_is_run, run_has_labels}
use Rattle.term_core.proofs.laws.labels_give_runs.Goals as goal

pub returns-clause-one : goal.returns-clause-one
returns-clause-one c = labels_one

pub returns-clause-runs : goal.returns-clause-runs
returns-clause-runs c = labelled_is_run

pub returns-clause-labels : goal.returns-clause-labels
returns-clause-labels c = run_has_labels
