use Rattle.viper_state.specs.Fits.{FitsHeap, FitsMask, FitsContents, FitsAmounts}
use Rattle.viper_state.proofs.Paired.{paired}
use Rattle.viper_state.proofs.ShapeLaws.{state_has_maps, memo_has_maps}
use Rattle.viper_state.proofs.layout_laws.what_fits_has_its_maps.Goals as goal

pub returns-clause-memo : goal.returns-clause-memo
returns-clause-memo c = memo_has_maps

pub returns-clause-state : goal.returns-clause-state
returns-clause-state c = state_has_maps

pub returns-clause-memo_heap : goal.returns-clause-memo_heap
returns-clause-memo_heap c = λ l m f u h at. paired FitsHeap l.fields m.heap f u h.heap at

pub returns-clause-memo_content : goal.returns-clause-memo_content
returns-clause-memo_content c = λ l m p us h at. paired FitsContents l.keys m.content p us h.content at

pub returns-clause-heap : goal.returns-clause-heap
returns-clause-heap c = λ l s f u h at. paired FitsHeap l.fields s.heap f u h.heap at

pub returns-clause-content : goal.returns-clause-content
returns-clause-content c = λ l s p us h at. paired FitsContents l.keys s.content p us h.content at

pub returns-clause-mask : goal.returns-clause-mask
returns-clause-mask c = λ l s f u h at. paired FitsMask l.fields s.mask f u h.mask at

pub returns-clause-amount : goal.returns-clause-amount
returns-clause-amount c = λ l s p us h at. paired FitsAmounts l.keys s.amount p us h.amount at
