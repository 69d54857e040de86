use Rattle.facets.proofs.Laws.{locating}
use Rattle.facets.proofs.facets_fetch_location.Goals as goal

pub overflow_cast-result : goal.overflow_cast-result
overflow_cast-result c = search locating

pub returns-in-None-clause-part : goal.returns-in-None-clause-part
returns-in-None-clause-part c = search locating

pub returns-in-Some-AppId-clause-inside : goal.returns-in-Some-AppId-clause-inside
returns-in-Some-AppId-clause-inside c = search locating

pub returns-in-Some-AppId-clause-part : goal.returns-in-Some-AppId-clause-part
returns-in-Some-AppId-clause-part c = search locating

pub returns-in-Some-Text-clause-inside : goal.returns-in-Some-Text-clause-inside
returns-in-Some-Text-clause-inside c = search locating

pub returns-in-Some-Text-clause-part : goal.returns-in-Some-Text-clause-part
returns-in-Some-Text-clause-part c = search locating
