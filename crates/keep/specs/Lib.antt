-- What a collection of the control space keeps is marked.

-- runs of pushes, one after the other
pub mod PushRuns
-- the slots outside the control space, position by position
pub mod Others
-- by the rules: the end of region 1 into itself
pub mod KeptByRules
