mod ByKind
mod OnABoard
