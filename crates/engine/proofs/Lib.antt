-- what is computed from the definitions
pub mod Worked
-- What belongs to no one function. Laws over plain lists and numbers: tests and refusals, what a list has, its parts, the rows, the rows hit, the
-- queue, the places, the window, a block that the reader takes.
pub mod Tests
pub mod HasLaws
pub mod PartLaws
pub mod RowLaws
pub mod HitLaws
pub mod QueueLaws
pub mod PlaceLaws
pub mod RingLaws
pub mod BlockFacts
pub mod NoticeLaws
-- what a call does, and what its tests say
pub mod Steps
pub mod Passed
-- the shape: its parts, one row changed, rows closed; then a replica just made and what each call does
pub mod Shaping
pub mod ShapeRow
pub mod ShapeClose
pub mod ShapeMade
pub mod ShapeBegin
pub mod ShapeWrite
pub mod ShapeEnd
pub mod ShapeAsk
pub mod ShapeSend
pub mod ShapeDeliver
pub mod ShapeTurn
pub mod ShapeWriteset
pub mod ShapeWork
pub mod ShapeNotice
-- a restart
pub mod RestartLaws
pub mod ShapeRestart
-- the theorems
pub mod Refusals
pub mod WorkFrame
pub mod Frames
pub mod Shapes
pub mod Rising
pub mod ReadBack
pub mod SentLaws
pub mod SentClient
pub mod SentSend
pub mod SentWork
pub mod SentNotice
pub mod Sent
pub mod TurnStays
pub mod Claims
pub mod Reports
pub mod Queues
pub mod Histories
pub mod Restarts
pub mod Tickets
-- out slots, and what a notice leaves alone
pub mod NoticeClaims
-- the window after each call
pub mod Window
-- with restarts among the calls: own writesets that a work meets
pub mod Reached
-- a station; a replica is none; a write with no table of classes, and the lock before staleness
pub mod Stations
pub mod Numbered
pub mod OwnSent
pub mod OneClass
pub mod Staleness
