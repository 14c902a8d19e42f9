-- A collection of the control space, stage by stage, and that it leaves what the rules leave.

-- the stages, and the cell of each object then
pub mod Numbering
-- the tables after them, then the cells
pub mod TablesAfter
pub mod Sliding
-- the places that the rules give, and the account of the stages; the promise stands in proofs/
pub mod PlacesByRules
pub mod CollectDid
-- what each stage asks for
pub mod StagesAsk
